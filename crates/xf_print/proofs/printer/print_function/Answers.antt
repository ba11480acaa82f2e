use Rattle.xf_print.proofs.Parts.{function_parts}
use Rattle.xf_host.proofs.WriteLemmas.{writes_same}
use Rattle.xf_print.proofs.printer.print_function.Goals as goal

pub returns-clause-text : goal.returns-clause-text
returns-clause-text g c =
    writes_same c.print_tree.result _ _ _ _ (function_parts _ _ c.args.function.now c.in_ok-add_op.ensures
    c.new-names.ensures) c.print_tree.ensures.text
