-- The points of a box, in lexicographic order, and those behind one of them.
use Rattle.std.specs.Prelude.{ℕ, ◌+◌, ◌-◌, ◌<◌, List, [], ◌∷◌, ◌++◌, map, flat_map, Bool, true, false}
use Rattle.xf_points.specs.Points.{Point, counted}
use Rattle.xf_points.specs.Windows.{Window}
use Rattle.xf_eval_points.specs.declared.span.Span.{Span}

abbrev pub IsOpen : Span → Type 0
IsOpen s = s.from < s.to

-- the same numbers as a window
abbrev pub window_of : Span → Window
window_of s = record { offset = s.from; size = s.to - s.from }

abbrev pub first_of : List Span → Point
first_of ss = map (λ (s : Span). s.from) ss

-- all points of the box
abbrev pub spread : List Span → List Point
spread [] = [] ∷ []
spread (s ∷ ss) = flat_map (λ i. map (λ p. i ∷ p) (spread ss)) (counted s.from (s.to - s.from))

-- the points behind one
abbrev pub later : List Span → Point → List Point
later [] p = []
later (s ∷ ss) [] = []
later (s ∷ ss) (i ∷ p) =
    map (λ q. i ∷ q) (later ss p)
    ++ flat_map (λ k. map (λ q. k ∷ q) (spread ss)) (counted (i + 1) (s.to - (i + 1)))

-- a point and those behind it, where there is one
abbrev pub rest_from : Bool → List Span → Point → List Point
rest_from true ss p = p ∷ later ss p
rest_from false ss p = []
