use Rattle.std.proofs.Common.{◌≡◌, ◌≤◌, ◌^◌, ◌-◌, drop}
use Rattle.std.specs.Prelude.{min}
use Rattle.xf_points.specs.Points.{place}
use Rattle.xf_eval_points.specs.Places.{place_from}
use Rattle.xf_eval_points.proofs.place.place_of.Given as goal

abbrev pub invariant-loop-dim : goal.invariant-loop-dim
invariant-loop-dim l =
    (l.place ≤ 2 ^ 64 - 1)
    × (min (place_from l.place (drop l.dim l.sizes) (drop l.dim l.index)) (2 ^ 64 - 1)
    ≡ min (place l.sizes l.index) (2 ^ 64 - 1))
