use Rattle.std.proofs.Common.{◌≡◌, drop}
use Rattle.xf_points.specs.Points.{same_point}
use Rattle.xf_eval_tensors.specs.Slices.{span_sizes}
use Rattle.xf_eval_tensors.proofs.slice_put.has_sizes.Given as goal

abbrev pub invariant-loop-at : goal.invariant-loop-at
invariant-loop-at l =
    same_point (drop l.at l.sizes) (span_sizes (drop l.at l.spans)) ≡ same_point l.sizes (span_sizes l.spans)
