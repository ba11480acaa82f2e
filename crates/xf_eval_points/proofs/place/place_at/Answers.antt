use Rattle.std.proofs.Common.{◌≡◌, ◌∙◌, ◌≤◌, ◌+◌, ◌*◌, sym, ap, arith, get_or, drop}
use Rattle.std.specs.Prelude.{min}
use Rattle.xf_points.specs.Points.{at, place}
use Rattle.xf_eval_points.specs.Places.{place_from}
use Rattle.xf_eval_points.proofs.PlaceLemmas.{place_from_start, place_more, place_end}
use Rattle.xf_eval_points.proofs.place.place_at.Goals as goal

pub loop-dim-init : goal.loop-dim-init
loop-dim-init c = (
  omega arith,
  ap (λ n. min n 18446744073709551615)
      (place_from_start c.args.sizes.now (at c.args.map.now c.args.point.now)),
)

pub loop-dim-preserved : goal.loop-dim-preserved
loop-dim-preserved c =
    let n = c.loop-dim.dim in
    let sizes = c.args.sizes.now in
    let index = at c.args.map.now c.args.point.now in
    let made : c.saturating_add-place.result
    ≡ min (min (c.loop-dim.place * get_or sizes n 0) 18446744073709551615 + get_or index n 0) 18446744073709551615 =
    c.saturating_add-place.ensures
    ∙ ap (λ x. min (x + c.select.result) 18446744073709551615) c.saturating_mul.ensures
    ∙ ap (λ x. min (min (c.loop-dim.place * get_or sizes n 0) 18446744073709551615 + x) 18446744073709551615)
    c.select.ensures in (
      omega (arith, made),
      ap (λ a. min (place_from a (drop (n + 1) sizes) (drop (n + 1) index)) 18446744073709551615) made
          ∙ place_more c.loop-dim.place sizes index n 18446744073709551615 c.loop-dim-test.true
          ∙ c.loop-dim.invariant.1,
    )

pub returns : goal.returns
returns c =
    let e = place_end c.loop-dim.place c.args.sizes.now (at c.args.map.now c.args.point.now) c.loop-dim.dim (omega arith) in
    let k = c.loop-dim.invariant.0 in
    let m = ap (λ n. min n 18446744073709551615) (sym e) ∙ c.loop-dim.invariant.1 in
    omega arith
