use Rattle.std.proofs.Common.{◌≡◌, ◌-◌, ◌++◌}
use Rattle.xf_format.specs.Rules.{dimension_rule}
use Rattle.xf_printed.specs.Structured.{dimension_fill, dimensions}
use Rattle.xf_print_base.proofs.Texts.{list_text, more_text}
use Rattle.xf_print_base.proofs.maps.write_dimensions.Given as goal

abbrev pub invariant-loop-at : goal.invariant-loop-at
invariant-loop-at l =
    l.line.items ++ more_text dimension_rule dimension_fill (dimensions l.at (l.dims - l.at))
    ≡ l.fn.line.items ++ list_text dimension_rule dimension_fill (dimensions 0 l.dims)
