use Rattle.std.proofs.Common.{◌≡◌, drop}
use Rattle.xf_ir.specs.Lists.{every}
use Rattle.std.specs.Prelude.{not}
use Rattle.xf_ir.specs.Types.{is_dynamic}
use Rattle.xf_rules_shape.proofs.dense.are_fixed.Given as goal

-- what is left passes where the whole does
abbrev pub invariant-loop-dim : goal.invariant-loop-dim
invariant-loop-dim l =
    every (λ d. not (is_dynamic d)) (drop l.dim-index l.dims) ≡ every (λ d. not (is_dynamic d)) l.dims
