use Rattle.std.proofs.Common.{◌≡◌, refl, ap, ◌∙◌, arith}
use Rattle.std.specs.Prelude.{map}
use Rattle.std.proofs.lemmas.List.{take_all}
use Rattle.xf_ir.specs.Changes.{tree_changed, body_changed}
use Rattle.xf_ir.proofs.ChangedLists.{ops_of-changed, regions_of-changed}
use Rattle.xf_ir.proofs.change.+changes.Goals as goal

pub block_with_changes-returns : goal.block_with_changes-returns
block_with_changes-returns t c =
    let f = tree_changed c.args.changes.now in
    let e : c.loop-op.ops.items ≡ map f c.block.inside.ops.items = c.loop-op.invariant
    ∙ ap (map f) (take_all _ _ (omega arith) ∙ c.deref-op-items.ensures.value) in
    let d = c.in_ok-duplicate.ensures in
    rw (← c.block.view_is, e, ops_of-changed, d) refl

pub with_changes-returns : goal.with_changes-returns
with_changes-returns t c =
    let f = body_changed c.args.changes.now in
    let e : c.loop-block.regions.items ≡ map f c.op.inside.regions.items = c.loop-block.invariant
    ∙ ap (map f) (take_all _ _ (omega arith) ∙ c.deref-block-items.ensures.value) in
    let a = c.in_ok-duplicate.ensures in
    let b = c.in_ok-duplicate-2.ensures in
    let d = c.in_ok-duplicate-3.ensures in
    let o = c.in_ok-changed_operands.ensures in
    rw (← c.op.view_is, e, regions_of-changed, a, b, d, o, c.as_slice.ensures) refl
