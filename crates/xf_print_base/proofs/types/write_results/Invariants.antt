use Rattle.std.proofs.Common.{◌≡◌, ◌++◌, drop}
use Rattle.xf_format.specs.Rules.{result_rule}
use Rattle.xf_printed.specs.Items.{type_fill}
use Rattle.xf_print_base.proofs.Texts.{list_text, more_text}
use Rattle.xf_print_base.proofs.types.write_results.Given as goal

abbrev pub invariant-loop-of : goal.invariant-loop-of
invariant-loop-of l =
    l.line.items ++ more_text (result_rule l.gap) type_fill (drop l.of-index l.rest)
    ≡ l.fn.line.items ++ list_text (result_rule l.gap) type_fill l.types
