use Rattle.std.proofs.Common.{ap}
use Rattle.xf_ir.specs.View.{ops_of}
use Rattle.xf_arena_bed.proofs.TreeLemmas.{blank_next}
use Rattle.xf_arena_bed.proofs.tree.blank_blocks.Goals as goal

pub loop-region-preserved : goal.loop-region-preserved
loop-region-preserved c =
    blank_next _ _ c.loop-region.region c.args.args.now _ _ _ c.loop-region.invariant c.get-types.ensures
    c.in_ok-duplicate.ensures (ap ops_of c.new.ensures.items) c.in_ok-push.ensures.items
