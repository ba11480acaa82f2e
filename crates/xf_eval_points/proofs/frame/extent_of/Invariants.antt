use Rattle.std.proofs.Common.{◌≡◌, drop}
use Rattle.xf_sem.specs.Structured.{extent_of}
use Rattle.xf_eval_points.specs.Frames.{shapes}
use Rattle.xf_eval_points.proofs.frame.extent_of.Given as goal

abbrev pub invariant-loop-at : goal.invariant-loop-at
invariant-loop-at l =
    extent_of l.dim (drop l.at l.maps) (shapes (drop l.at l.args)) ≡ extent_of l.dim l.maps (shapes l.args)
