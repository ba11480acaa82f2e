use Rattle.std.proofs.Common.{◌≡◌, ◌+◌, drop}
use Rattle.xf_ir.specs.View.{ops_of, regions_of}
use Rattle.xf_ir.specs.Walk.{first_of}
use Rattle.xf_ir.specs.Choices.{bare, ops_bare, regions_bare}
use Rattle.xf_ir.specs.Used.{goes_unused, ops_first, regions_first}
use Rattle.xf_ir.proofs.dead.+first_inside.Given as goal

-- the first in what is left is the first in the whole
abbrev pub invariant-loop-inner : goal.invariant-loop-inner
invariant-loop-inner l =
    first_of (ops_first (goes_unused l.used) (ops_bare (ops_of (drop l.inner-index l.inner-items))))
    (regions_first (goes_unused l.used) (regions_bare (regions_of (drop (l.block-index + 1) l.block-items))))
    ≡ regions_first (goes_unused l.used) (bare l.op).regions

abbrev pub invariant-loop-block : goal.invariant-loop-block
invariant-loop-block l =
    regions_first (goes_unused l.used) (regions_bare (regions_of (drop l.block-index l.block-items)))
    ≡ regions_first (goes_unused l.used) (bare l.op).regions
