use Rattle.std.proofs.Common.{◌≡◌, ◌+◌, drop}
use Rattle.xf_ir.specs.Count.{tree_count, ops_count, regions_count}
use Rattle.xf_ir.specs.View.{ops_of, regions_of}
use Rattle.xf_ir.proofs.walk.+count.Given as goal

abbrev pub decreases-count : goal.decreases-count
decreases-count l = goal.size-count l

-- what is counted and what is left are the whole
abbrev pub invariant-loop-inner : goal.invariant-loop-inner
invariant-loop-inner l = l.sum + ops_count (ops_of (drop l.inner-index l.inner-items))
    + regions_count (regions_of (drop (l.block-index + 1) l.block-items)) ≡ tree_count l.op

abbrev pub invariant-loop-block : goal.invariant-loop-block
invariant-loop-block l = l.sum + regions_count (regions_of (drop l.block-index l.block-items)) ≡ tree_count l.op
