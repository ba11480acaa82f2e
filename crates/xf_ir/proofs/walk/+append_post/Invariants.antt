use Rattle.std.proofs.Common.{◌≡◌, ◌∷◌, ◌++◌, [], ◌+◌, drop}
use Rattle.xf_ir.specs.View.{ops_of, regions_of}
use Rattle.xf_ir.specs.Walk.{tree_post, ops_post, regions_post}
use Rattle.xf_ir.proofs.walk.+append_post.Given as goal

-- what is there and what is left are the whole
abbrev pub invariant-loop-inner : goal.invariant-loop-inner
invariant-loop-inner l = l.names ++ (ops_post (ops_of (drop l.inner-index l.inner-items))
    ++ (regions_post (regions_of (drop (l.block-index + 1) l.block-items)) ++ l.op.name ∷ []))
    ≡ l.fn.names ++ tree_post l.op

abbrev pub invariant-loop-block : goal.invariant-loop-block
invariant-loop-block l = l.names ++ (regions_post (regions_of (drop l.block-index l.block-items)) ++ l.op.name ∷ [])
    ≡ l.fn.names ++ tree_post l.op
