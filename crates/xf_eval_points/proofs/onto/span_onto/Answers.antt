use Rattle.std.proofs.Common.{◌≡◌, ◌≢◌, ◌∙◌, true, false, sym, arith, get_or}
use Rattle.std.proofs.lemmas.Bool.{ne_eqb, eq-eqb}
use Rattle.xf_eval_points.proofs.FrameLemmas.{span_past, span_step}
use Rattle.xf_eval_points.proofs.onto.span_onto.Goals as goal
use Rattle.xf_eval_points.proofs.onto.span_onto.Goals.{then-map-at, else-map-at}

pub returns-then-at-index : goal.returns-then-at-index
returns-then-at-index c =
    sym (span_past c.args.dim c.loop-at.span c.args.map.now c.args.index.now c.loop-at.at (omega arith))
    ∙ c.loop-at.invariant

pub loop-at-preserved : goal.loop-at-preserved
loop-at-preserved c =
    elim c.if-map-at.branch [
      | then-map-at w ↦
          span_step c.args.dim c.loop-at.span c.if-map-at.span c.args.map.now c.args.index.now c.loop-at.at true
          (omega arith) (omega arith) (eq-eqb (get_or c.args.map.now c.loop-at.at 0) c.args.dim w.if-map-at.true)
          (let p = w.max.ensures in let q = w.min.ensures in let r = w.span-is in cc)
          ∙ c.loop-at.invariant
      | else-map-at w ↦
          span_step c.args.dim c.loop-at.span c.if-map-at.span c.args.map.now c.args.index.now c.loop-at.at false
          (omega arith) (omega arith) (ne_eqb (get_or c.args.map.now c.loop-at.at 0) c.args.dim w.if-map-at.false) w.span-is
          ∙ c.loop-at.invariant
    ]
