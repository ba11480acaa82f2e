use Rattle.std.proofs.Common.{◌≡◌, drop}
use Rattle.xf_rules_shape.specs.Dims.{iterators_fit_set}
use Rattle.xf_rules_shape.proofs.maps.iterators_fit_set.Given as goal

abbrev pub invariant-loop-dim : goal.invariant-loop-dim
invariant-loop-dim l = iterators_fit_set l.out l.dim (drop l.dim l.iterators) ≡ iterators_fit_set l.out 0 l.iterators
