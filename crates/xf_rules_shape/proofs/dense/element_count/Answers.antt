use Rattle.std.proofs.Common.{◌∙◌, arith}
use Rattle.xf_rules_shape.proofs.DenseLemmas.{counted_next, counted_all}
use Rattle.xf_rules_shape.proofs.dense.element_count.Goals as goal

pub loop-dim-preserved : goal.loop-dim-preserved
loop-dim-preserved c = (
  omega (arith, c.times_extent-count.ensures),
  counted_next c.loop-dim.count c.times_extent-count.result
      c.args.dims.now c.loop-dim.dim-index c.loop-dim-test.true c.times_extent-count.ensures
      ∙ c.loop-dim.invariant.1,
)

pub returns : goal.returns
returns c =
    counted_all c.loop-dim.count c.args.dims.now c.loop-dim.dim-index c.loop-dim-test.false c.loop-dim.invariant.0
    ∙ c.loop-dim.invariant.1
