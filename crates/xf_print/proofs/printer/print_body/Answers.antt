use Rattle.std.proofs.lemmas.Result.{err_from_is_err_and}
use Rattle.xf_print_base.specs.Index.{names_of}
use Rattle.xf_print.proofs.Parts.{body_parts}
use Rattle.xf_print.proofs.Writes.{going_fails, going_last, going_on, going_starts}
use Rattle.xf_print.proofs.printer.print_body.Goals as goal

pub returns-in_err-print_opened-clause-text : goal.returns-in_err-print_opened-clause-text
returns-in_err-print_opened-clause-text g c =
    let p = err_from_is_err_and c.from_residual.result c.from_residual.ensures.1 in
    rw p.1 (going_fails _ _ (body_parts (names_of c.args.names.now) c.args.m.now c.args.line.now.items)
    (going_starts _ _)
    c.in_err-print_opened.ensures.text)

pub returns-clause-text : goal.returns-clause-text
returns-clause-text g c =
    going_last c.print_functions_and_end.result _ (going_on _
    (body_parts (names_of c.args.names.now) c.args.m.now c.args.line.now.items) (going_starts _ _)
    c.in_ok-print_opened.ensures.text) c.print_functions_and_end.ensures.text
