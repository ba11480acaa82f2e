use Rattle.std.proofs.Common.{arith, refl, ◌∙◌}
use Rattle.xf_ir.proofs.PutLists.{regions_of-insert, regions_insert-past}
use Rattle.xf_ir.proofs.spot.insert_in_regions.Goals as goal

pub returns-in_ok-insert_in_block : goal.returns-in_ok-insert_in_block
returns-in_ok-insert_in_block c =
    let e = c.in_ok-insert_in_block.ensures in
    let v = c.block.view_is ∙ c.index_mut-block.ensures.value in
    regions_of-insert c.args.regions.now.items c.args.region c.args.at c.args.tree _ c.index_mut-block.result.now
    (omega (arith, c.if-region-len.true, c.len.ensures)) (rw (← v, e) refl)

pub returns-else-region-len : goal.returns-else-region-len
returns-else-region-len c = regions_insert-past c.args.regions.now.items c.args.region c.args.at c.args.tree
    (omega (arith, c.if-region-len.false, c.len.ensures))
