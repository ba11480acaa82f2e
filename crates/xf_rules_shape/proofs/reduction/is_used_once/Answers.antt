use Rattle.std.proofs.Common.{arith}
use Rattle.xf_rules_shape.specs.Dependents.{out_value}
use Rattle.xf_rules_shape.proofs.DependentLemmas.{last_step}
use Rattle.xf_rules_shape.proofs.reduction.is_used_once.Goals as goal

pub loop-op-preserved : goal.loop-op-preserved
loop-op-preserved c = (
  omega (arith, c.add_uses-count.ensures),
  last_step (out_value c.args.out) c.args.ops.now c.loop-op.op-index c.op-item.result c.loop-op.count
      c.add_uses-count.result _ c.loop-op-test.true c.op-item.is c.add_uses-count.ensures c.loop-op.invariant.1,
)
