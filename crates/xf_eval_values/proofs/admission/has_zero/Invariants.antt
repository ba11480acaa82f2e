use Rattle.std.proofs.Common.{◌≡◌, drop}
use Rattle.xf_eval_values.specs.Sizes.{has_zero}
use Rattle.xf_eval_values.proofs.admission.has_zero.Given as goal

abbrev pub invariant-loop-size : goal.invariant-loop-size
invariant-loop-size l = has_zero (drop l.size-index l.sizes) ≡ has_zero l.sizes
