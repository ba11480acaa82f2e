use Rattle.std.proofs.Common.{◌≡◌, ◌≤◌, drop}
use Rattle.std.specs.Prelude.{min, ◌+◌, ◌-◌, ◌^◌}
use Rattle.xf_ir.specs.Uses.{use_count}
use Rattle.xf_rules_shape.specs.Dependents.{out_value}
use Rattle.xf_rules_shape.proofs.reduction.add_uses_among.Given as goal

-- what is counted and what is left are the whole
abbrev pub invariant-loop-value : goal.invariant-loop-value
invariant-loop-value l =
    (l.count ≤ 2 ^ 64 - 1) × (min (l.count + use_count (out_value l.out) (drop l.value-index l.values)) (2 ^ 64 - 1)
    ≡ min (l.before + use_count (out_value l.out) l.values) (2 ^ 64 - 1))
