use Rattle.std.proofs.lemmas.List.{drop_more}
use Rattle.xf_print_base.specs.Index.{names_of}
use Rattle.xf_print_base.proofs.Texts.{list_goes, use_begun}
use Rattle.xf_print_base.proofs.values.write_uses.Goals as goal

pub loop-value-preserved : goal.loop-value-preserved
loop-value-preserved c =
    list_goes _ _ _ c.loop-value.value-index _ _ _ _ _ _ (drop_more _ _ _ c.loop-value-test.true) c.loop-value.invariant
    c.in_ok-push.ensures.items c.in_ok-write_use-2.ensures (use_begun c.args.gap (names_of c.args.names.now) _)
