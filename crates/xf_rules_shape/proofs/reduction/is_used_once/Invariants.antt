use Rattle.std.proofs.Common.{◌≡◌, ◌≤◌, drop}
use Rattle.std.specs.Prelude.{min, ◌+◌, ◌-◌, ◌^◌}
use Rattle.xf_ir.specs.Uses.{use_count, ops_operands}
use Rattle.xf_ir.specs.View.{ops_of}
use Rattle.xf_rules_shape.specs.Dependents.{out_value}
use Rattle.xf_rules_shape.proofs.reduction.is_used_once.Given as goal

-- what is counted and what is left are the whole
abbrev pub invariant-loop-op : goal.invariant-loop-op
invariant-loop-op l = (l.count ≤ 2 ^ 64 - 1)
    × (min (l.count + use_count (out_value l.out) (ops_operands (ops_of (drop l.op-index l.ops)))) (2 ^ 64 - 1)
    ≡ min (use_count (out_value l.out) (ops_operands (ops_of l.ops))) (2 ^ 64 - 1))
