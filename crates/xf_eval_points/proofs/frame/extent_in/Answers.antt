use Rattle.std.proofs.Common.{◌≡◌, ◌∙◌, sym, arith}
use Rattle.xf_eval_points.proofs.FrameLemmas.{extent_in_past, extent_in_step}
use Rattle.xf_eval_points.proofs.frame.extent_in.Goals as goal

pub returns-then-at-sizes : goal.returns-then-at-sizes
returns-then-at-sizes c =
    sym (extent_in_past c.args.dim c.args.map.now c.args.sizes.now c.loop-at.at (omega arith)) ∙ c.loop-at.invariant

pub loop-at-preserved : goal.loop-at-preserved
loop-at-preserved c =
    extent_in_step c.args.dim c.args.map.now c.args.sizes.now c.loop-at.at (omega arith) (omega arith)
    c.if-map-at.false ∙ c.loop-at.invariant
