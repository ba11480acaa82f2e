use Rattle.std.proofs.Common.{◌≡◌, ◌∙◌, sym, arith, get_or, length}
use Rattle.xf_eval_points.specs.Onto.{span_onto}
use Rattle.xf_eval_points.proofs.FrameLemmas.{listed_more}
use Rattle.xf_eval_points.proofs.onto.spans_onto.Goals as goal

pub loop-dim-preserved : goal.loop-dim-preserved
loop-dim-preserved c =
    listed_more (λ d. span_onto d (get_or c.args.extents.now d 0) c.args.map.now c.args.index.now)
    c.loop-dim.spans.items c.push.new.self.items _
    c.span_onto.result c.loop-dim.dim (length c.args.extents.now) c.loop-dim-test.true
    c.in_ok-push.ensures.items c.span_onto.ensures c.loop-dim.invariant
