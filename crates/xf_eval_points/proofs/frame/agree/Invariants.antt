use Rattle.std.proofs.Common.{◌≡◌, drop}
use Rattle.xf_sem.specs.Structured.{agree}
use Rattle.xf_eval_points.specs.Frames.{shapes}
use Rattle.xf_eval_points.proofs.frame.agree.Given as goal

abbrev pub invariant-loop-at : goal.invariant-loop-at
invariant-loop-at l =
    agree l.extents (drop l.at l.maps) (shapes (drop l.at l.args)) ≡ agree l.extents l.maps (shapes l.args)
