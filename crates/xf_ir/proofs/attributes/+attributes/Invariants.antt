use Rattle.std.proofs.Common.{◌≡◌, take}
use Rattle.std.specs.Prelude.{map}
use Rattle.xf_ir.specs.Attributes.{attr_set}
use Rattle.xf_ir.specs.Changes.{tree_attributed, body_attributed}
use Rattle.xf_ir.proofs.attributes.+attributes.Given as goal

abbrev pub invariant-block_with_attr-loop-op : goal.invariant-block_with_attr-loop-op
invariant-block_with_attr-loop-op l =
    l.ops.items ≡ map (tree_attributed l.name (attr_set l.key l.value)) (take l.op-index l.op-items)

abbrev pub invariant-with_attr-loop-block : goal.invariant-with_attr-loop-block
invariant-with_attr-loop-block l =
    l.regions.items ≡ map (body_attributed l.name (attr_set l.key l.value)) (take l.block-index l.block-items)
