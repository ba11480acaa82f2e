use Rattle.std.proofs.Common.{◌≡◌, ◌≤◌, [], length, take, drop}
use Rattle.xf_eval_points.specs.Spans.{first_of, later}
use Rattle.xf_eval_points.proofs.span.advance.Given as goal

abbrev pub decreases-loop-at : goal.decreases-loop-at
decreases-loop-at l = l.at

-- the dimensions from one on are at their last numbers, and begin again
abbrev pub invariant-loop-at : goal.invariant-loop-at
invariant-loop-at l = record {
  in_range : l.at ≤ length l.spans;
  length_same : length l.point ≡ length l.fn.point;
  done : later (drop l.at l.spans) (drop l.at l.fn.point) ≡ [];
  front : take l.at l.point ≡ take l.at l.fn.point;
  again : drop l.at l.point ≡ first_of (drop l.at l.spans);
}
