use Rattle.std.proofs.Common.{◌+◌, ◌∙◌, drop, arith}
use Rattle.xf_ir.specs.View.{regions_of}
use Rattle.xf_ir.specs.Walk.{regions_names}
use Rattle.xf_ir.proofs.NextNames.{next_turn_at}
use Rattle.xf_ir.proofs.edit.+above_tree.Goals as goal

pub loop-inner-preserved : goal.loop-inner-preserved
loop-inner-preserved t c =
    let ns = regions_names (regions_of (drop (c.loop-block.block-index + 1) c.deref-block-items.result.now)) in
    let e = next_turn_at c.loop-inner.next c.deref-inner-items.result.now c.loop-inner.inner-index c.inner-item.result
    ns (omega arith) c.inner-item.is in
    rw c.above_tree-next.ensures (e ∙ c.loop-inner.invariant)
