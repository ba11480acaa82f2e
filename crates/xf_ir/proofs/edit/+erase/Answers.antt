use Rattle.std.proofs.Common.{◌≡◌, sym, ap, ◌∙◌, arith, true, false, eqb, get_or, add-one}
use Rattle.std.specs.Prelude.{map}
use Rattle.std.proofs.lemmas.List.Edits.{map_over_more}
use Rattle.xf_ir.specs.Tree.{Tree}
use Rattle.xf_ir.specs.Edits.{tree_erased}
use Rattle.xf_ir.specs.View.{tree_size, body_size}
use Rattle.xf_ir.proofs.EraseLemmas.{body_erased, regions_of-map, size_at, body_size_at, map_done, get-mapped}
use Rattle.xf_ir.proofs.EraseLemmas.{none_more, erased_none, erased_at}
use Rattle.xf_ir.proofs.edit.+erase.Goals as goal

pub erase_in_block-returns-then-eq : goal.erase_in_block-returns-then-eq
erase_in_block-returns-then-eq t c =
    let xs = c.args.ops.now.items in
    let d = c.index-op.result.now in
    let e = get-mapped (tree_erased c.args.name) xs c.loop-i.ops.items c.loop-i.i d
    (omega arith) c.loop-i.invariant.items in
    let named : eqb (get_or xs c.loop-i.i d).name.0 c.args.name.0 ≡ true =
    ap (λ (x : Tree). eqb x.name.0 c.args.name.0) (sym (c.op.view_is ∙ c.index-op.ensures ∙ e))
    ∙ sym c.eq.ensures ∙ c.if-eq.true in
    rw c.remove-erased.ensures.items (erased_at c.args.name xs c.loop-i.ops.items c.loop-i.i d
    (omega arith) c.loop-i.invariant.others named c.loop-i.invariant.items)

pub erase_in_block-erase_inside-requires : goal.erase_in_block-erase_inside-requires
erase_in_block-erase_inside-requires t c =
    let xs = c.args.ops.now.items in
    let d = c.index_mut.result.now in
    let e = get-mapped (tree_erased c.args.name) xs c.loop-i.ops.items c.loop-i.i d
    (omega arith) c.loop-i.invariant.items in
    (omega (arith, size_at xs c.loop-i.i d (omega arith), ap tree_size (c.index_mut.ensures.value ∙ e)), tt)

pub erase_in_block-loop-i-preserved : goal.erase_in_block-loop-i-preserved
erase_in_block-loop-i-preserved t c =
    let xs = c.args.ops.now.items in
    let d = c.index-op.result.now in
    let e = get-mapped (tree_erased c.args.name) xs c.loop-i.ops.items c.loop-i.i d
    (omega arith) c.loop-i.invariant.items in
    let other : eqb (get_or xs c.loop-i.i d).name.0 c.args.name.0 ≡ false =
    ap (λ (x : Tree). eqb x.name.0 c.args.name.0) (sym (c.op.view_is ∙ c.index-op.ensures ∙ e))
    ∙ sym c.eq.ensures ∙ c.if-eq.false in
    record {
      items = rw c.erase_inside.ensures (map_over_more (tree_erased c.args.name) xs c.loop-i.ops.items c.loop-i.i
          c.index_mut.result.now (omega arith) c.loop-i.invariant.items c.index_mut.ensures.value);
      others = rw add-one (none_more c.args.name xs c.loop-i.i d (omega arith) c.loop-i.invariant.others other);
    }

pub erase_in_block-returns : goal.erase_in_block-returns
erase_in_block-returns t c =
    let xs = c.args.ops.now.items in
    let e : c.loop-i.ops.items ≡ map (tree_erased c.args.name) xs =
    map_done _ xs _ c.loop-i.i (omega arith) c.loop-i.invariant.items in
    rw e (erased_none c.args.name xs c.loop-i.i (omega arith) c.loop-i.invariant.others)

pub erase_in_regions-erase_in_block-requires : goal.erase_in_regions-erase_in_block-requires
erase_in_regions-erase_in_block-requires t c =
    let xs = c.args.regions.now.items in
    let d = c.index_mut-block.result.now in
    let e =
    get-mapped (body_erased c.args.name) xs c.loop-i.regions.items c.loop-i.i d (omega arith) c.loop-i.invariant in (
      omega (
        arith,
        body_size_at xs c.loop-i.i d (omega arith),
        ap body_size (c.block.view_is ∙ c.index_mut-block.ensures.value ∙ e),
      ),
      tt,
    )

pub erase_in_regions-loop-i-preserved : goal.erase_in_regions-loop-i-preserved
erase_in_regions-loop-i-preserved t c =
    let d = c.index_mut-block.result.now in
    let e = map_over_more (body_erased c.args.name) c.args.regions.now.items c.loop-i.regions.items c.loop-i.i d
    (omega arith) c.loop-i.invariant c.index_mut-block.ensures.value in
    rw c.erase_in_block.ensures (rw (← c.block.view_is) at e)

pub erase_in_regions-returns : goal.erase_in_regions-returns
erase_in_regions-returns t c =
    let xs = c.args.regions.now.items in
    let e : c.loop-i.regions.items ≡ map (body_erased c.args.name) xs =
    map_done _ xs _ c.loop-i.i (omega arith) c.loop-i.invariant in
    rw e (regions_of-map c.args.name xs)
