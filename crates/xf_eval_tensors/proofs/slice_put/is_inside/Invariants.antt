use Rattle.std.proofs.Common.{◌≡◌, drop}
use Rattle.xf_points.specs.Windows.{inside}
use Rattle.xf_eval_tensors.specs.Slices.{windows_of}
use Rattle.xf_eval_tensors.proofs.slice_put.is_inside.Given as goal

abbrev pub invariant-loop-at : goal.invariant-loop-at
invariant-loop-at l =
    inside (windows_of (drop l.at l.spans)) (drop l.at l.point) ≡ inside (windows_of l.spans) l.point
