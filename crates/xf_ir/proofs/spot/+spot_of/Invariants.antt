use Rattle.std.proofs.Common.{◌≡◌, ◌+◌, drop}
use Rattle.xf_ir.specs.View.{ops_of, regions_of, tree_size}
use Rattle.xf_ir.specs.Walk.{first_of}
use Rattle.xf_ir.specs.Spots.{ops_locate, regions_locate, tree_locate}
use Rattle.xf_ir.proofs.spot.+spot_of.Given as goal

abbrev pub decreases-spot_of : goal.decreases-spot_of
decreases-spot_of l = tree_size l.op.now

-- the first in what is left is the first in the whole
abbrev pub invariant-loop-at : goal.invariant-loop-at
invariant-loop-at l = first_of (ops_locate l.name l.op.name l.region l.at (ops_of (drop l.at l.inner-items)))
    (regions_locate l.name l.op.name (l.region + 1) (regions_of (drop (l.region + 1) l.block-items)))
    ≡ tree_locate l.name l.op

abbrev pub invariant-loop-region : goal.invariant-loop-region
invariant-loop-region l =
    regions_locate l.name l.op.name l.region (regions_of (drop l.region l.block-items)) ≡ tree_locate l.name l.op
