use Rattle.std.proofs.Common.{◌≡◌, ◌^◌, drop}
use Rattle.std.specs.Prelude.{nat_lt}
use Rattle.xf_ir.specs.Lists.{every}
use Rattle.xf_eval_values.proofs.admission.are_sizes.Given as goal

abbrev pub invariant-loop-size : goal.invariant-loop-size
invariant-loop-size l =
    every (λ size. nat_lt size (2 ^ 31)) (drop l.size-index l.sizes) ≡ every (λ size. nat_lt size (2 ^ 31)) l.sizes
