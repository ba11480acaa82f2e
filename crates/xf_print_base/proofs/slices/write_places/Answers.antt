use Rattle.std.proofs.Common.{refl}
use Rattle.std.proofs.lemmas.List.{drop_more}
use Rattle.xf_print_base.specs.Index.{names_of}
use Rattle.xf_print_base.proofs.PlaceTexts.{places_begin, places_go}
use Rattle.xf_print_base.proofs.slices.write_places.Goals as goal

pub loop-place-init : goal.loop-place-init
loop-place-init c =
    places_begin c.args.side (names_of c.args.names.now) c.args.places.now _ c.args.values.now _ _ _
    (drop_more _ 0 _ c.in-len1-up.len_at_least) c.behind_place-left.ensures c.in_ok-write_place.ensures

pub loop-place-preserved : goal.loop-place-preserved
loop-place-preserved c =
    places_go c.args.side (names_of c.args.names.now) _ c.loop-place.place-index _ _ _ _ _ _ _ _
    (drop_more _ _ _ c.loop-place-test.true) c.behind_place-left-in-loop-place.ensures c.loop-place.invariant
    c.in_ok-push.ensures.items c.in_ok-write_place-2.ensures refl
