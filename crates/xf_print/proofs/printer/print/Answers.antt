use Rattle.std.proofs.Common.{ap, ◌∙◌, ◌++◌}
use Rattle.xf_print_base.specs.Index.{names_of}
use Rattle.xf_print.specs.Lines.{opening}
use Rattle.xf_print.proofs.Writes.{form_written}
use Rattle.xf_print.proofs.printer.print.Goals as goal

pub returns-clause-text : goal.returns-clause-text
returns-clause-text g c =
    form_written c.print_body.result _ _ (names_of c.new-names.result) c.args.m.now _ c.new-names.ensures
    (c.in_ok-write_opening.ensures ∙ ap (λ x. x ++ opening (names_of c.new-names.result) c.args.m.now.root)
    c.new-line.ensures.items) c.print_body.ensures.text
