use Rattle.std.proofs.Common.{ap, ◌∙◌, arith}
use Rattle.xf_format.specs.Rows.{header}
use Rattle.xf_print_base.specs.Index.{names_of}
use Rattle.xf_print.proofs.Headers.{header_made, no_header}
use Rattle.xf_print.proofs.line.make_header.Goals as goal

pub returns-in-empty : goal.returns-in-empty
returns-in-empty c =
    no_header (names_of c.args.names.now) c.args.margin c.args.op.now c.row_header.result.now
    (c.row_header.ensures ∙ ap header c.op_row.ensures) (omega arith)

pub returns-in_ok-push-in-len1-up : goal.returns-in_ok-push-in-len1-up
returns-in_ok-push-in-len1-up c =
    header_made (names_of c.args.names.now) c.args.margin c.args.op.now c.row_header.result.now _ _ _ _
    (c.row_header.ensures ∙ ap header c.op_row.ensures) c.in-len1-up.len_at_least
    c.in_ok-begin-in-len1-up.ensures c.in_ok-extend_from_slice-in-len1-up.ensures.items
    c.in_ok-write_op_slots-in-len1-up.ensures c.in_ok-push-in-len1-up.ensures.items
