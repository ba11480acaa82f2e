-- The number of an index, one size after another.
use Rattle.std.specs.Prelude.{ℕ, ◌+◌, ◌*◌, List, [], ◌∷◌}
use Rattle.xf_points.specs.Points.{Point}

abbrev pub place_from : ℕ → List ℕ → Point → ℕ
place_from k [] p = k
place_from k (e ∷ es) [] = place_from (k * e) es []
place_from k (e ∷ es) (i ∷ p) = place_from (k * e + i) es p
