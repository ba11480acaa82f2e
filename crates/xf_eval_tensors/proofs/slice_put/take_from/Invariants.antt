use Rattle.std.proofs.Common.{◌≡◌, length, take}
use Rattle.xf_points.specs.Windows.{taken_from}
use Rattle.xf_eval_tensors.specs.Slices.{windows_of}
use Rattle.xf_eval_tensors.proofs.slice_put.take_from.Given as goal

abbrev pub invariant-loop-at : goal.invariant-loop-at
invariant-loop-at l =
    (take l.at l.local ≡ taken_from (windows_of (take l.at l.spans)) (take l.at l.point))
    × (length l.local ≡ length l.spans)
