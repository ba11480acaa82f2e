use Rattle.std.proofs.Common.{◌≡◌, take}
use Rattle.std.specs.Prelude.{map}
use Rattle.xf_ir.specs.Spots.{tree_put, body_put}
use Rattle.xf_ir.proofs.spot.+put.Given as goal

abbrev pub invariant-block_with_tree-loop-op : goal.invariant-block_with_tree-loop-op
invariant-block_with_tree-loop-op l = l.ops.items ≡ map (tree_put l.at l.tree) (take l.op-index l.op-items)

abbrev pub invariant-with_tree-loop-block : goal.invariant-with_tree-loop-block
invariant-with_tree-loop-block l = l.regions.items ≡ map (body_put l.at l.tree) (take l.block-index l.block-items)
