use Rattle.std.proofs.Common.{◌≡◌, ◌-◌, arith}
use Rattle.xf_eval_points.proofs.SpanLemmas.{advanced}
use Rattle.xf_eval_points.proofs.span.advance.Goals as goal

pub returns-then-point-at-2 : goal.returns-then-point-at-2
returns-then-point-at-2 c =
    advanced c.args.spans.now c.args.point.now c.loop-at.point c.loop-at.at (c.loop-at.at - 1) _ (omega arith)
    c.loop-at.invariant.in_range c.requires.same c.loop-at.invariant.length_same c.requires.open
    c.loop-at.invariant.done c.loop-at.invariant.front c.loop-at.invariant.again c.if-point-at-2.true
