use Rattle.std.proofs.Common.{◌≡◌, ◌++◌, drop}
use Rattle.xf_format.specs.Rules.{iterator_rule}
use Rattle.xf_printed.specs.Structured.{iterator_fill}
use Rattle.xf_print_base.proofs.Texts.{list_text, more_text}
use Rattle.xf_print_base.proofs.maps.write_each_iterator.Given as goal

abbrev pub invariant-loop-kind : goal.invariant-loop-kind
invariant-loop-kind l =
    l.line.items ++ more_text iterator_rule iterator_fill (drop l.kind-index l.rest)
    ≡ l.fn.line.items ++ list_text iterator_rule iterator_fill l.iterators
