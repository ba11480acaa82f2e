use Rattle.std.proofs.Common.{◌≡◌, refl, ap, ◌∙◌, arith}
use Rattle.std.specs.Prelude.{map}
use Rattle.std.proofs.lemmas.List.{take_all}
use Rattle.xf_ir.specs.Attributes.{attr_set}
use Rattle.xf_ir.specs.Changes.{tree_attributed, body_attributed}
use Rattle.xf_ir.proofs.ChangedLists.{ops_of-attributed, regions_of-attributed}
use Rattle.xf_ir.proofs.attributes.+attributes.Goals as goal

pub block_with_attr-returns : goal.block_with_attr-returns
block_with_attr-returns t c =
    let g = attr_set c.args.key.now c.args.value.now in
    let f = tree_attributed c.args.name g in
    let e : c.loop-op.ops.items ≡ map f c.block.inside.ops.items = c.loop-op.invariant
    ∙ ap (map f) (take_all _ _ (omega arith) ∙ c.deref-op-items.ensures.value) in
    let d = c.in_ok-duplicate.ensures in
    rw (← c.block.view_is, e, ops_of-attributed, d) refl

pub with_attr-returns : goal.with_attr-returns
with_attr-returns t c =
    let g = attr_set c.args.key.now c.args.value.now in
    let f = body_attributed c.args.name g in
    let e : c.loop-block.regions.items ≡ map f c.op.inside.regions.items = c.loop-block.invariant
    ∙ ap (map f) (take_all _ _ (omega arith) ∙ c.deref-block-items.ensures.value) in
    let a = c.in_ok-duplicate.ensures in
    let b = c.in_ok-duplicate-2.ensures in
    let d = rw (← c.op.view_is) at c.in_ok-changed_attrs.ensures in
    let o = c.in_ok-from_slice.ensures in
    rw (← c.op.view_is, e, regions_of-attributed, a, b, d, o, c.as_slice.ensures) refl
