use Rattle.std.proofs.Common.{◌≡◌, ◌∙◌, sym, arith}
use Rattle.xf_sem.specs.Structured.{extent_of}
use Rattle.xf_eval_points.specs.Frames.{shapes}
use Rattle.xf_eval_points.proofs.FrameLemmas.{listed_more}
use Rattle.xf_eval_points.proofs.frame.extents.Goals as goal

pub loop-dim-preserved : goal.loop-dim-preserved
loop-dim-preserved c =
    listed_more (λ d. extent_of d c.args.maps.now (shapes c.args.args.now)) c.loop-dim.all.items c.push.new.self.items _
    c.extent_of.result c.loop-dim.dim c.args.rank c.loop-dim-test.true c.in_ok-push.ensures.items c.extent_of.ensures c.loop-dim.invariant
