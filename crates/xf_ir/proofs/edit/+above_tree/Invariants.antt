use Rattle.std.proofs.Common.{◌≡◌, ◌+◌, ◌++◌, drop}
use Rattle.xf_ir.specs.View.{ops_of, regions_of}
use Rattle.xf_ir.specs.Walk.{ops_names, regions_names, tree_names}
use Rattle.xf_ir.specs.Edits.{next_above}
use Rattle.xf_ir.proofs.edit.+above_tree.Given as goal

-- what is left raises the name so far to that of the whole
abbrev pub invariant-loop-inner : goal.invariant-loop-inner
invariant-loop-inner l = next_above l.next (ops_names (ops_of (drop l.inner-index l.inner-items))
    ++ regions_names (regions_of (drop (l.block-index + 1) l.block-items))) ≡ next_above l.fn.next (tree_names l.op)

abbrev pub invariant-loop-block : goal.invariant-loop-block
invariant-loop-block l = next_above l.next (regions_names (regions_of (drop l.block-index l.block-items)))
    ≡ next_above l.fn.next (tree_names l.op)
