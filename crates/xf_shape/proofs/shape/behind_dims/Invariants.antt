use Rattle.std.proofs.Common.{◌≡◌, length}
use Rattle.xf_shape.specs.Shapes.{dims_first}
use Rattle.xf_shape.proofs.shape.behind_dims.Given as goal

-- what stands behind the dimensions that are left stands behind all
abbrev pub invariant-dim : goal.invariant-dim
invariant-dim l = (dims_first l.rest).rest ≡ (dims_first l.bytes).rest

abbrev pub decreases-dim : goal.decreases-dim
decreases-dim l = length l.rest
