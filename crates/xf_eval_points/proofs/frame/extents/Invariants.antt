use Rattle.std.proofs.Common.{◌≡◌, ◌++◌, ◌-◌}
use Rattle.std.specs.Prelude.{map}
use Rattle.xf_points.specs.Points.{counted}
use Rattle.xf_sem.specs.Structured.{extent_of, extents}
use Rattle.xf_eval_points.specs.Frames.{shapes}
use Rattle.xf_eval_points.proofs.frame.extents.Given as goal

abbrev pub invariant-loop-dim : goal.invariant-loop-dim
invariant-loop-dim l =
    l.all.items ++ map (λ d. extent_of d l.maps (shapes l.args)) (counted l.dim (l.rank - l.dim))
    ≡ extents l.rank l.maps (shapes l.args)
