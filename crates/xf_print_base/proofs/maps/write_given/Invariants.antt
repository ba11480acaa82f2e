use Rattle.std.proofs.Common.{◌≡◌, ◌++◌, drop}
use Rattle.xf_format.specs.Rules.{given_rule}
use Rattle.xf_printed.specs.Structured.{dimension_fill}
use Rattle.xf_print_base.proofs.Texts.{list_text, more_text}
use Rattle.xf_print_base.proofs.maps.write_given.Given as goal

abbrev pub invariant-loop-at : goal.invariant-loop-at
invariant-loop-at l =
    l.line.items ++ more_text given_rule dimension_fill (drop l.at-index l.rest)
    ≡ l.fn.line.items ++ list_text given_rule dimension_fill l.results
