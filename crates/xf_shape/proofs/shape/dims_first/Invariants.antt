use Rattle.std.proofs.Common.{◌≡◌, ◌++◌, length}
use Rattle.xf_shape.specs.Shapes.{dims_first}
use Rattle.xf_shape.proofs.shape.dims_first.Given as goal

-- those so far, and those of what is left, are all
abbrev pub invariant-dim : goal.invariant-dim
invariant-dim l = l.dims ++ (dims_first l.rest).dims ≡ (dims_first l.bytes).dims

abbrev pub decreases-dim : goal.decreases-dim
decreases-dim l = length l.rest
