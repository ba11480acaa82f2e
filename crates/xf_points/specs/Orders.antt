-- The order in which points are taken is free: a result is over the set of points.
use Rattle.std.specs.Prelude.{◌≡◌, ℕ, ◌<◌, List, [], ◌∷◌, map, length, get_or, true, false, ◌||◌}
use Rattle.xf_points.specs.Points.{Point, Each, Below, counted, same_point, at}
use Rattle.xf_points.specs.Folds.{Points}
use Rattle.xf_points.specs.Operands.{Operand}

abbrev pub among : List Point → Points
among [] p = false
among (q ∷ qs) p = same_point p q || among qs p

-- no point stands twice
abbrev pub OncePoints : List Point → Type 0
OncePoints [] = Unit {0}
OncePoints (q ∷ qs) = Each (λ r. same_point r q ≡ false) qs × OncePoints qs

-- a list of the points below these extents, in some order
pub record Lists (es : List ℕ) (l : List Point) : Type 0 where
  pub below : Each (λ p. Below p es) l
  pub once : OncePoints l
  pub all : (p : Point) → Below p es → among l p ≡ true

-- ---- interchange: dimension i is the old dimension that stands at i

-- two lists of so many dimensions that lead back to each other
pub record Exchange (n : ℕ) (old new : List ℕ) : Type 0 where
  pub old_dims : Each (λ d. d < n) old
  pub new_dims : Each (λ d. d < n) new
  pub old_count : length old ≡ n
  pub new_count : length new ≡ n
  pub there : at old new ≡ counted 0 n
  pub back : at new old ≡ counted 0 n

-- a map over the new dimensions
abbrev pub renumbered : List ℕ → List ℕ → List ℕ
renumbered new ks = map (λ d. get_or new d 0) ks

abbrev pub renumbered_operands : {A : Type 0} → List ℕ → List (Operand A) → List (Operand A)
renumbered_operands new ins = map (λ (o : Operand _). record { dims = renumbered new o.dims; items = o.items }) ins
