use Rattle.std.proofs.lemmas.List.{drop_more}
use Rattle.std.proofs.Common.{refl}
use Rattle.xf_ir.specs.declared.kind.SliceIndex.TheVariants.{Dynamic}
use Rattle.xf_format.specs.Rules.{stride_rule}
use Rattle.xf_printed.specs.Structured.{stride_fill}
use Rattle.xf_print_base.proofs.PlaceTexts.{stride_first}
use Rattle.xf_print_base.proofs.Texts.{list_begins, list_goes}
use Rattle.xf_print_base.proofs.slices.write_each_stride.Goals as goal

pub loop-place-init : goal.loop-place-init
loop-place-init c =
    list_begins stride_rule stride_fill c.args.places.now _ _ _
    (drop_more _ 0 Dynamic c.in-len1-up.len_at_least) (stride_first Dynamic)
    c.in_ok-write_stride.ensures

pub loop-place-preserved : goal.loop-place-preserved
loop-place-preserved c =
    list_goes _ stride_fill _ c.loop-place.place-index _ _ _ _ _ _
    (drop_more _ c.loop-place.place-index Dynamic c.loop-place-test.true) c.loop-place.invariant
    c.in_ok-push.ensures.items c.in_ok-write_stride-2.ensures refl
