use Rattle.std.proofs.Common.{◌≡◌}
use Rattle.xf_eval_points.proofs.DimLemmas.{dims_more}
use Rattle.xf_eval_points.proofs.named_maps.all_dims.Goals as goal

pub loop-dim-preserved : goal.loop-dim-preserved
loop-dim-preserved c =
    dims_more c.loop-dim.dims.items c.push.new.self.items _ c.loop-dim.dim c.in-Ok.rank c.loop-dim-test.true
    c.in_ok-push.ensures.items c.loop-dim.invariant
