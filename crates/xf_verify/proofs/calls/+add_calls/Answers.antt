use Rattle.std.proofs.Common.{◌+◌, ◌++◌, drop, ap, ◌∙◌, []}
use Rattle.xf_ir.specs.Calls.{regions_callees, callee_before}
use Rattle.xf_ir.specs.Tree.{Tree}
use Rattle.xf_ir.specs.View.{regions_of}
use Rattle.xf_verify.specs.Chains.{numbers_in, numbers_called}
use Rattle.xf_verify.proofs.ChainLemmas.{calls_more}
use Rattle.xf_verify.proofs.calls.+add_calls.Goals as goal

pub loop-inner-preserved : goal.loop-inner-preserved
loop-inner-preserved t c =
    let f = numbers_in c.args.numbers.now in
    let ts = c.deref-inner-items.result.now in
    calls_more f ts c.loop-inner.inner-index c.inner-item.result c.inner-item.is c.loop-inner-test.true
    (regions_callees (regions_of (drop (c.loop-block.block-index + 1) c.deref-block-items.result.now)))
    c.loop-inner.callees c.add_call.new.callees c.add_calls.new.callees (c.args.callees.now
    ++ numbers_called f (regions_callees c.args.op.now.regions))
    (c.in_ok-add_call.ensures
    ∙ ap (λ (x : Tree). c.loop-inner.callees ++ numbers_called f (callee_before x.kind [])) c.inner.view_is)
    c.in_ok-add_calls.ensures c.loop-inner.invariant
