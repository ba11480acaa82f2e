use Rattle.xf_print_base.specs.Index.{names_of}
use Rattle.xf_host.proofs.WriteLemmas.{writes_same}
use Rattle.xf_print.proofs.Parts.{end_parts}
use Rattle.xf_print.proofs.printer.print_end.Goals as goal

pub returns-clause-text : goal.returns-clause-text
returns-clause-text g c =
    writes_same c.print_tail.result _ _ _ _ (end_parts (names_of c.args.names.now) c.args.root.now _
    c.in_ok-make_closing.ensures) c.print_tail.ensures.text
