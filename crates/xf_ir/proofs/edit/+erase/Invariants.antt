use Rattle.std.proofs.Common.{◌≡◌, ◌++◌, ◌+◌, ◌*◌, take, drop}
use Rattle.std.specs.Prelude.{map}
use Rattle.xf_ir.specs.Edits.{tree_erased}
use Rattle.xf_ir.specs.View.{ops_of, regions_of, tree_size, ops_size, regions_size}
use Rattle.xf_ir.proofs.EraseLemmas.{body_erased, NoneBefore}
use Rattle.xf_ir.proofs.edit.+erase.Given as goal

abbrev pub decreases-erase_inside : goal.decreases-erase_inside
decreases-erase_inside l = 2 * tree_size l.op.now + 1

abbrev pub decreases-erase_in_block : goal.decreases-erase_in_block
decreases-erase_in_block l = 2 * ops_size (ops_of l.ops.now.items)

abbrev pub decreases-erase_in_regions : goal.decreases-erase_in_regions
decreases-erase_in_regions l = 2 * regions_size (regions_of l.regions.now.items)

abbrev pub invariant-erase_in_regions-loop-i : goal.invariant-erase_in_regions-loop-i
invariant-erase_in_regions-loop-i l =
    l.regions.items ≡ map (body_erased l.name) (take l.i l.initial.regions.items) ++ drop l.i l.initial.regions.items

abbrev pub invariant-erase_in_block-loop-i : goal.invariant-erase_in_block-loop-i
invariant-erase_in_block-loop-i l = record {
  items : l.ops.items ≡ map (tree_erased l.name) (take l.i l.initial.ops.items) ++ drop l.i l.initial.ops.items;
  others : NoneBefore l.name l.initial.ops.items l.i;
}
