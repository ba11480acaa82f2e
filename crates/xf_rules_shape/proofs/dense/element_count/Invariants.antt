use Rattle.std.proofs.Common.{◌≡◌, ◌≤◌, drop}
use Rattle.std.specs.Prelude.{min, ◌*◌, ◌^◌, ◌-◌}
use Rattle.xf_ir.specs.RuleAttributes.{element_count}
use Rattle.xf_rules_shape.proofs.dense.element_count.Given as goal

-- what is counted times what is left is the whole, as far as 64 bits hold it
abbrev pub invariant-loop-dim : goal.invariant-loop-dim
invariant-loop-dim l = (l.count ≤ 2 ^ 64 - 1)
    × (min (l.count * element_count (drop l.dim-index l.dims)) (2 ^ 64 - 1) ≡ min (element_count l.dims) (2 ^ 64 - 1))
