use Rattle.std.proofs.Common.{◌≡◌, IfOk, refl, sym, ap, subst, ◌∙◌, arith, false, eqb}
use Rattle.std.specs.Prelude.{map}
use Rattle.std.proofs.lemmas.List.{take_all}
use Rattle.xf_ir.specs.Tree.{Tree}
use Rattle.xf_ir.specs.Spots.{tree_put, body_put}
use Rattle.xf_ir.proofs.PutLists.{ops_of-put, put_deeper}
use Rattle.xf_ir.proofs.spot.+put.Goals as goal

pub block_with_tree-returns : goal.block_with_tree-returns
block_with_tree-returns t c =
    let f = tree_put c.args.at c.args.tree.now in
    let e : c.loop-op.ops.items ≡ map f c.block.inside.ops.items = c.loop-op.invariant
    ∙ ap (map f) (take_all _ _ (omega arith) ∙ c.deref-op-items.ensures.value) in
    let d = c.in_ok-duplicate.ensures in
    rw (← c.block.view_is, e, ops_of-put, d) refl

pub with_tree-returns : goal.with_tree-returns
with_tree-returns t c =
    let f = body_put c.args.at c.args.tree.now in
    let e : c.loop-block.regions.items ≡ map f c.op.inside.regions.items = c.loop-block.invariant
    ∙ ap (map f) (take_all _ _ (omega arith) ∙ c.deref-block-items.ensures.value) in
    let other : eqb c.args.op.now.name.0 c.args.at.parent.0 ≡ false =
    ap (λ (x : Tree). eqb x.name.0 c.args.at.parent.0) (sym c.op.view_is) ∙ sym c.eq.ensures ∙ c.if-eq.false in
    subst (λ o'. IfOk c.with_regions.result (λ o. o ≡ o')) (put_deeper c.args.at c.args.tree.now c.args.op.now
    c.op.inside.regions.items _ other (ap (λ (x : Tree). x.regions) c.op.view_is) e) c.with_regions.ensures
