use Rattle.std.proofs.Common.{◌≡◌, ◌≤◌, drop}
use Rattle.std.specs.Prelude.{min, ◌+◌, ◌-◌, ◌^◌}
use Rattle.xf_ir.specs.Uses.{use_count, tree_operands, ops_operands, regions_operands}
use Rattle.xf_ir.specs.View.{ops_of, regions_of}
use Rattle.xf_rules_shape.specs.Dependents.{out_value}
use Rattle.xf_rules_shape.proofs.reduction.+add_uses.Given as goal

-- what is counted and what is left are the whole
abbrev pub invariant-loop-inner : goal.invariant-loop-inner
invariant-loop-inner l = (l.count ≤ 2 ^ 64 - 1)
    × (min (l.count + (use_count (out_value l.out) (ops_operands (ops_of (drop l.inner-index l.inner-items)))
    + use_count (out_value l.out) (regions_operands (regions_of (drop (l.block-index + 1) l.block-items)))))
    (2 ^ 64 - 1) ≡ min (l.before + use_count (out_value l.out) (tree_operands l.op)) (2 ^ 64 - 1))

abbrev pub invariant-loop-block : goal.invariant-loop-block
invariant-loop-block l = (l.count ≤ 2 ^ 64 - 1)
    × (min (l.count + use_count (out_value l.out) (regions_operands (regions_of (drop l.block-index l.block-items))))
    (2 ^ 64 - 1) ≡ min (l.before + use_count (out_value l.out) (tree_operands l.op)) (2 ^ 64 - 1))

abbrev pub decreases-add_uses : goal.decreases-add_uses
decreases-add_uses l = goal.size-add_uses l
