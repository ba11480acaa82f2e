use Rattle.std.proofs.Common.{◌≡◌, ◌+◌, ◌*◌, drop}
use Rattle.xf_ir.specs.View.{ops_of, regions_of, tree_size}
use Rattle.xf_ir.specs.Walk.{ops_find, regions_find, first_of}
use Rattle.xf_rules_shape.proofs.reduction.+find.Given as goal

-- the first in what is left is the first in the whole
abbrev pub invariant-find_below-loop-inner : goal.invariant-find_below-loop-inner
invariant-find_below-loop-inner l = first_of (ops_find l.name (ops_of (drop l.inner-index l.inner-items)))
    (regions_find l.name (regions_of (drop (l.block-index + 1) l.block-items))) ≡ regions_find l.name l.op.regions

abbrev pub invariant-find_below-loop-block : goal.invariant-find_below-loop-block
invariant-find_below-loop-block l =
    regions_find l.name (regions_of (drop l.block-index l.block-items)) ≡ regions_find l.name l.op.regions

abbrev pub decreases-find_in : goal.decreases-find_in
decreases-find_in l = 2 * tree_size l.op.now + 1

abbrev pub decreases-find_below : goal.decreases-find_below
decreases-find_below l = 2 * tree_size l.op.now
