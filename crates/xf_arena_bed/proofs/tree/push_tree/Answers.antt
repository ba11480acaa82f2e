use Rattle.std.proofs.Common.{arith, refl, ◌∙◌}
use Rattle.xf_arena_bed.proofs.TreeLemmas.{pushed, not_pushed, ops_end}
use Rattle.xf_arena_bed.proofs.tree.push_tree.Goals as goal

pub returns-in_ok-push : goal.returns-in_ok-push
returns-in_ok-push c =
    let v = c.block.view_is ∙ c.index_mut-block.ensures.value in
    pushed c.args.regions.now.items c.args.region c.args.tree _ c.index_mut-block.result.now
    (omega (arith, c.if-region-len.true, c.len.ensures))
    (rw (← v, c.in_ok-push.ensures.items, ops_end c.block.inside.ops.items c.args.tree) refl)

pub returns-else-region-len : goal.returns-else-region-len
returns-else-region-len c =
    not_pushed c.args.regions.now.items c.args.region c.args.tree (omega (arith, c.if-region-len.false, c.len.ensures))
