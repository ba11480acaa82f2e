use Rattle.std.proofs.Common.{◌≡◌, ◌<◌, ◌^◌, List, length, get_or, sym, ap, subst, ◌∙◌, arith}
use Rattle.xf_ir.specs.Tree.{Tree, Body}
use Rattle.xf_ir.specs.View.{ops_of, regions_of, tree_size, body_size, ops_size, regions_size}
use Rattle.xf_ir.specs.Spots.{ops_length}
use Rattle.xf_ir.specs.Bounds.{regions_length, OpsShort, TreeIsShort}
use Rattle.xf_ir.proofs.EraseLemmas.{size_at, body_size_at}
use Rattle.xf_ir.proofs.ShortLists.{long_regions, long_ops, short_op, short_block, short_length}
use Rattle.xf_ir.proofs.spot.+spot_of.Goals as goal

pub place_number-requires : goal.place_number-requires
place_number-requires t c =
    let e : regions_length c.args.op.now.regions ≡ length c.op.inside.regions.items =
    ap (λ (x : Tree). regions_length x.regions) (sym c.op.view_is) ∙ long_regions c.op.inside.regions.items in
    let few = c.requires.lists.regions in
    omega (arith, e, few, ap length c.deref-block-items.ensures.value)

pub place_number-requires-then-eq : goal.place_number-requires-then-eq
place_number-requires-then-eq t c =
    let bs = c.op.inside.regions.items in
    let b = c.block-item.result in
    let i = c.loop-region.region in
    let s = rw (← c.op.view_is) at c.requires.lists.blocks in
    let is : get_or bs i b ≡ b =
    sym (c.block-item.is ∙ ap (λ (xs : List Body). get_or xs i b) c.deref-block-items.ensures.value) in
    let short : ops_length b.ops < 2 ^ 32 = subst (λ (x : Body). ops_length x.ops < 2 ^ 32) is
    (short_length bs i b (omega (arith, ap length c.deref-block-items.ensures.value)) s) in
    let long : ops_length b.ops ≡ length c.block.inside.ops.items =
    ap (λ (x : Body). ops_length x.ops) (sym c.block.view_is) ∙ long_ops c.block.inside.ops.items in
    omega (arith, short, long, ap length c.deref-inner-items.ensures.value)

pub spot_of-requires : goal.spot_of-requires
spot_of-requires t c =
    let bs = c.op.inside.regions.items in
    let b = c.block-item.result in
    let i = c.loop-region.region in
    let s = rw (← c.op.view_is) at c.requires.inside in
    let is : get_or bs i b ≡ b =
    sym (c.block-item.is ∙ ap (λ (xs : List Body). get_or xs i b) c.deref-block-items.ensures.value) in
    let within : i < length bs = omega (arith, ap length c.deref-block-items.ensures.value) in
    let inside : OpsShort b.ops = subst (λ (x : Body). OpsShort x.ops) is (short_block bs i b within s) in
    let smaller : body_size b < regions_size (regions_of bs) =
    subst (λ (x : Body). body_size x < regions_size (regions_of bs)) is (body_size_at bs i b within) in
    let ts = c.block.inside.ops.items in
    let o = c.inner-item.result in
    let j = c.loop-at.at in
    let short : OpsShort (ops_of ts) = subst (λ (x : Body). OpsShort x.ops) (sym c.block.view_is) inside in
    let it : get_or ts j o ≡ o =
    sym (c.inner-item.is ∙ ap (λ (xs : List Tree). get_or xs j o) c.deref-inner-items.ensures.value) in
    let among : j < length ts = omega (arith, ap length c.deref-inner-items.ensures.value) in
    let least : tree_size o < ops_size (ops_of ts) =
    subst (λ (x : Tree). tree_size x < ops_size (ops_of ts)) it (size_at ts j o among) in
    let same : body_size b ≡ ops_size (ops_of ts) = ap body_size (sym c.block.view_is) in
    let whole : regions_size (regions_of bs) ≡ tree_size c.args.op.now = ap tree_size c.op.view_is in
    (omega (arith, smaller, least, same, whole), subst TreeIsShort it (short_op ts j o among short))
