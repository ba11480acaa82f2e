use Rattle.std.proofs.Common.{◌≡◌, length, take}
use Rattle.xf_eval_points.specs.Spans.{first_of}
use Rattle.xf_eval_points.proofs.span.begin.Given as goal

abbrev pub invariant-loop-at : goal.invariant-loop-at
invariant-loop-at l =
    (take l.at l.point ≡ first_of (take l.at l.spans)) × (length l.point ≡ length l.spans)
