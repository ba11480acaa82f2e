-- A reduction split over partial accumulators: each takes every so-many-th number of the reduced dimension.
use Rattle.std.specs.Prelude.{ℕ, ◌*◌, List, [], ◌∷◌, ◌++◌, length, set}
use Rattle.xf_points.specs.Points.{Point, counted, at}
use Rattle.xf_points.specs.Folds.{Step, result}
use Rattle.xf_points.specs.Windows.{Window, sizes, whole, placed, repeated}

-- the window of a turn: so many numbers of the reduced dimension, and the others whole
abbrev pub turn_windows : List ℕ → ℕ → ℕ → ℕ → List Window
turn_windows es r factor t = set (whole es) r (record { offset = t * factor; size = factor })

-- a turn joins what each point of its window brings to the accumulator of its number
abbrev pub split_turn : {A : Type 0} → List ℕ → List ℕ → ℕ → ℕ → Step A → ℕ → (Point → A) → Point → A
split_turn es out r factor step t y j =
    result (sizes (turn_windows es r factor t)) (out ++ r ∷ []) (λ p. step (placed (turn_windows es r factor t) p)) y j

-- the accumulators behind so many turns, each from the neutral element on
abbrev pub accumulators : {A : Type 0} → List ℕ → List ℕ → ℕ → ℕ → Step A → A → ℕ → Point → A
accumulators es out r factor step neutral turns = repeated 0 turns (split_turn es out r factor step) (λ j. neutral)

-- and the out joined with all of them
abbrev pub rejoined : {A : Type 0} → List ℕ → List ℕ → ℕ → (A → A → A) → (Point → A) → (Point → A) → Point → A
rejoined es out factor c y x j = result (at out es ++ factor ∷ []) (counted 0 (length out)) (λ p a. c a (y p)) x j
