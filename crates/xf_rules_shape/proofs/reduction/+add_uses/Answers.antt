use Rattle.std.proofs.Common.{◌+◌, ap, ◌∙◌, drop, arith}
use Rattle.xf_ir.specs.Tree.{Body}
use Rattle.xf_ir.specs.View.{ops_of, regions_of}
use Rattle.xf_ir.specs.Uses.{use_count, regions_operands}
use Rattle.xf_rules_shape.specs.Dependents.{out_value}
use Rattle.xf_rules_shape.proofs.DependentLemmas.{op_step, block_step}
use Rattle.xf_rules_shape.proofs.reduction.+add_uses.Goals as goal

pub loop-inner-init : goal.loop-inner-init
loop-inner-init t c = (
  c.loop-block.invariant.0,
  block_step (out_value c.args.out) c.deref-block-items.result.now c.loop-block.block-index c.block-item.result
      (ops_of c.deref-inner-items.result.now) c.loop-block.count _ c.loop-block-test.true c.block-item.is (ap ops_of
      c.deref-inner-items.ensures.value ∙ ap (λ (b : Body). b.ops) c.block.view_is) c.loop-block.invariant.1,
)

pub loop-inner-preserved : goal.loop-inner-preserved
loop-inner-preserved t c = (
  omega (arith, c.add_uses-count.ensures),
  op_step (out_value c.args.out) c.deref-inner-items.result.now c.loop-inner.inner-index c.inner-item.result
      c.loop-inner.count c.add_uses-count.result (use_count (out_value c.args.out)
      (regions_operands (regions_of (drop (c.loop-block.block-index + 1) c.deref-block-items.result.now))))
      _ c.loop-inner-test.true c.inner-item.is c.add_uses-count.ensures c.loop-inner.invariant.1,
)
