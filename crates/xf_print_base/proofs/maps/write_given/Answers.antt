use Rattle.std.proofs.Common.{true}
use Rattle.std.proofs.lemmas.List.{drop_more}
use Rattle.xf_print_base.proofs.MapTexts.{given_begin, given_begun}
use Rattle.xf_print_base.proofs.Texts.{list_goes}
use Rattle.xf_print_base.proofs.maps.write_given.Goals as goal

pub loop-at-init : goal.loop-at-init
loop-at-init c =
    given_begin c.args.results.now _ _ _ (drop_more _ 0 _ c.in-len1-up.len_at_least) c.in_ok-write_dimension.ensures

pub loop-at-preserved : goal.loop-at-preserved
loop-at-preserved c =
    list_goes _ _ _ c.loop-at.at-index _ _ _ _ _ _ (drop_more _ _ _ c.loop-at-test.true) c.loop-at.invariant
    c.in_ok-push.ensures.items c.in_ok-write_dimension-2.ensures (given_begun true _)
