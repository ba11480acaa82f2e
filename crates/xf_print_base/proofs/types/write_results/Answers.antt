use Rattle.xf_print_base.proofs.Texts.{item_at, list_goes, result_begun}
use Rattle.xf_print_base.proofs.types.write_results.Goals as goal

pub loop-of-preserved : goal.loop-of-preserved
loop-of-preserved c =
    list_goes _ _ _ c.loop-of.of-index c.of-item.result _ _ _ _ _ (item_at _ _ _ c.loop-of-test.true c.of-item.is)
    c.loop-of.invariant c.in_ok-push.ensures.items c.in_ok-write_result-2.ensures
    (result_begun c.args.gap c.of-item.result)
