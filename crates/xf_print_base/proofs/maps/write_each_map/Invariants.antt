use Rattle.std.proofs.Common.{◌≡◌, ◌++◌, drop}
use Rattle.xf_format.specs.Rules.{map_rule}
use Rattle.xf_printed.specs.Structured.{map_fill}
use Rattle.xf_print_base.proofs.Texts.{list_text, more_text}
use Rattle.xf_print_base.proofs.maps.write_each_map.Given as goal

abbrev pub invariant-loop-of : goal.invariant-loop-of
invariant-loop-of l =
    l.line.items ++ more_text map_rule map_fill (drop l.of-index l.rest)
    ≡ l.fn.line.items ++ list_text map_rule map_fill l.maps
