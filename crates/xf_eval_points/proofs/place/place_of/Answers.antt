use Rattle.std.proofs.Common.{◌≡◌, ◌∙◌, ◌+◌, ◌*◌, ap, arith, get_or, drop}
use Rattle.std.specs.Prelude.{min}
use Rattle.xf_eval_points.specs.Places.{place_from}
use Rattle.xf_eval_points.proofs.PlaceLemmas.{place_from_start, place_more}
use Rattle.xf_eval_points.proofs.place.place_of.Goals as goal

pub loop-dim-init : goal.loop-dim-init
loop-dim-init c = (
  omega arith,
  ap (λ n. min n 18446744073709551615) (place_from_start c.args.sizes.now c.args.index.now),
)

pub loop-dim-preserved : goal.loop-dim-preserved
loop-dim-preserved c =
    let n = c.loop-dim.dim in
    let sizes = c.args.sizes.now in
    let index = c.args.index.now in
    let made : c.saturating_add-place.result
    ≡ min (min (c.loop-dim.place * get_or sizes n 0) 18446744073709551615 + get_or index n 0) 18446744073709551615 =
    c.saturating_add-place.ensures
    ∙ ap (λ x. min (x + c.number_at.result) 18446744073709551615) c.saturating_mul.ensures
    ∙ ap (λ x. min (min (c.loop-dim.place * get_or sizes n 0) 18446744073709551615 + x) 18446744073709551615)
    c.number_at.ensures in (
      omega (arith, made),
      ap (λ a. min (place_from a (drop (n + 1) sizes) (drop (n + 1) index)) 18446744073709551615) made
          ∙ place_more c.loop-dim.place sizes index n 18446744073709551615 c.loop-dim-test.true
          ∙ c.loop-dim.invariant.1,
    )
