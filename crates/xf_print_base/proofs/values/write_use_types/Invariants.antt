use Rattle.std.proofs.Common.{◌≡◌, ◌++◌, drop}
use Rattle.xf_format.specs.Rules.{type_rule}
use Rattle.xf_print_base.specs.Index.{names_of}
use Rattle.xf_printed.specs.Items.{value_type_fill}
use Rattle.xf_print_base.proofs.Texts.{list_text, more_text}
use Rattle.xf_print_base.proofs.values.write_use_types.Given as goal

abbrev pub invariant-loop-value : goal.invariant-loop-value
invariant-loop-value l =
    l.line.items ++ more_text (type_rule l.gap) (value_type_fill (names_of l.names)) (drop l.value-index l.rest)
    ≡ l.fn.line.items ++ list_text (type_rule l.gap) (value_type_fill (names_of l.names)) l.values
