use Rattle.std.proofs.Common.{◌≡◌, ◌*◌, ◌<◌, drop}
use Rattle.xf_points.specs.Points.{product}
use Rattle.xf_eval_values.proofs.admission.product_within.Given as goal

abbrev pub invariant-loop-size : goal.invariant-loop-size
invariant-loop-size l =
    (l.count * product (drop l.size-index l.sizes) ≡ product l.sizes) × (0 < product l.sizes)
