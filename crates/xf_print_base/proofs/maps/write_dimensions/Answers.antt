use Rattle.std.proofs.Common.{arith}
use Rattle.xf_print_base.proofs.MapTexts.{dimensions_begin, dimensions_go}
use Rattle.xf_print_base.proofs.maps.write_dimensions.Goals as goal

pub loop-at-init : goal.loop-at-init
loop-at-init c =
    dimensions_begin c.args.dims _ _ (omega (arith, c.if-dims-eq0.false)) c.in_ok-write_dimension.ensures

pub loop-at-preserved : goal.loop-at-preserved
loop-at-preserved c =
    dimensions_go c.args.dims c.loop-at.at _ _ _ _ c.loop-at-test.true c.loop-at.invariant
    c.in_ok-push.ensures.items c.in_ok-write_dimension-2.ensures
