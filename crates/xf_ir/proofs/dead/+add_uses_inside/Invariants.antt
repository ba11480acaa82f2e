use Rattle.std.proofs.Common.{◌≡◌, ◌+◌, drop}
use Rattle.xf_ir.specs.View.{ops_of, regions_of}
use Rattle.xf_ir.specs.Uses.{ops_operands, regions_operands, tree_operands}
use Rattle.xf_ir.specs.Used.{with_uses}
use Rattle.xf_ir.proofs.dead.+add_uses_inside.Given as goal

-- what is there with what is left is the whole
abbrev pub invariant-loop-inner : goal.invariant-loop-inner
invariant-loop-inner l = with_uses (with_uses l.used (ops_operands (ops_of (drop l.inner-index l.inner-items))))
    (regions_operands (regions_of (drop (l.block-index + 1) l.block-items))) ≡ with_uses l.fn.used (tree_operands l.op)

abbrev pub invariant-loop-block : goal.invariant-loop-block
invariant-loop-block l = with_uses l.used (regions_operands (regions_of (drop l.block-index l.block-items)))
    ≡ with_uses l.fn.used (tree_operands l.op)
