use Rattle.std.proofs.Common.{◌≡◌, ◌∙◌, sym, arith}
use Rattle.xf_eval_values.proofs.SizeLemmas.{zero_product, positive_product, passes_limit}
use Rattle.xf_eval_values.proofs.admission.product_within.Goals as goal

pub returns-then-has_zero : goal.returns-then-has_zero
returns-then-has_zero c = (sym (zero_product c.args.sizes.now (sym c.has_zero.ensures ∙ c.if-has_zero.true)), omega arith)

pub loop-size-init : goal.loop-size-init
loop-size-init c = (omega arith, positive_product c.args.sizes.now (sym c.has_zero.ensures ∙ c.if-has_zero.false))

pub returns-then-next-limit : goal.returns-then-next-limit
returns-then-next-limit c =
    passes_limit c.args.sizes.now c.loop-size.size-index c.loop-size.count c.args.limit c.loop-size-test.true
    c.loop-size.invariant.0 c.loop-size.invariant.1 (omega arith)
