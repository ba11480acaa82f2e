use Rattle.std.proofs.Common.{◌≡◌, drop}
use Rattle.xf_ir.specs.RuleLinalg.{has_reduction}
use Rattle.xf_rules_shape.proofs.reduction.has_reduction.Given as goal

abbrev pub invariant-loop-iterator : goal.invariant-loop-iterator
invariant-loop-iterator l = has_reduction (drop l.iterator-index l.iterators) ≡ has_reduction l.iterators
