use Rattle.std.proofs.Common.{◌≡◌, drop}
use Rattle.xf_points.specs.Points.{at, same_point}
use Rattle.xf_eval_points.proofs.frame.has_sizes.Given as goal

abbrev pub invariant-loop-dim : goal.invariant-loop-dim
invariant-loop-dim l =
    same_point (drop l.dim l.sizes) (drop l.dim (at l.map l.extents)) ≡ same_point l.sizes (at l.map l.extents)
