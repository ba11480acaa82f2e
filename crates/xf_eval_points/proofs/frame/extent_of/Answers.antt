use Rattle.std.proofs.Common.{◌≡◌, ◌∙◌, sym, arith}
use Rattle.xf_eval_points.proofs.FrameLemmas.{extent_of_past}
use Rattle.xf_eval_points.proofs.frame.extent_of.Goals as goal

pub returns-then-at-args : goal.returns-then-at-args
returns-then-at-args c =
    sym (extent_of_past c.args.dim c.args.maps.now c.args.args.now c.loop-at.at (omega arith)) ∙ c.loop-at.invariant
