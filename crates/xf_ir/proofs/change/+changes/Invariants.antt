use Rattle.std.proofs.Common.{◌≡◌, take}
use Rattle.std.specs.Prelude.{map}
use Rattle.xf_ir.specs.Changes.{tree_changed, body_changed}
use Rattle.xf_ir.proofs.change.+changes.Given as goal

abbrev pub invariant-block_with_changes-loop-op : goal.invariant-block_with_changes-loop-op
invariant-block_with_changes-loop-op l = l.ops.items ≡ map (tree_changed l.changes) (take l.op-index l.op-items)

abbrev pub invariant-with_changes-loop-block : goal.invariant-with_changes-loop-block
invariant-with_changes-loop-block l = l.regions.items ≡ map (body_changed l.changes) (take l.block-index l.block-items)
