use Rattle.std.proofs.Common.{◌≡◌, ◌+◌, drop}
use Rattle.xf_ir.specs.View.{ops_of, regions_of}
use Rattle.xf_ir.specs.Walk.{tree_find, ops_find, regions_find, first_of}
use Rattle.xf_ir.specs.Choices.{bare, ops_bare, regions_bare}
use Rattle.xf_ir.proofs.dead.+find_outside_bodies.Given as goal

-- the first in what is left is the first in the whole
abbrev pub invariant-loop-inner : goal.invariant-loop-inner
invariant-loop-inner l = first_of (ops_find l.name (ops_bare (ops_of (drop l.inner-index l.inner-items))))
    (regions_find l.name (regions_bare (regions_of (drop (l.block-index + 1) l.block-items))))
    ≡ tree_find l.name (bare l.op)

abbrev pub invariant-loop-block : goal.invariant-loop-block
invariant-loop-block l =
    regions_find l.name (regions_bare (regions_of (drop l.block-index l.block-items))) ≡ tree_find l.name (bare l.op)
