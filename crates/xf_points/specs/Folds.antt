-- What the points of a set do to an element, one after another.
use Rattle.std.specs.Prelude.{◌≡◌, ℕ, List, [], ◌∷◌, Bool, true, false, ◌&&◌, ◌||◌, if◌then◌else◌}
use Rattle.xf_points.specs.Points.{Point, points, Below, same_point, at}

-- a set of points
abbrev pub Points : Type 0
Points = Point → Bool

abbrev pub both : Points → Points → Points
both s t p = s p && t p

abbrev pub either : Points → Points → Points
either s t p = s p || t p

abbrev pub nowhere : Points
nowhere p = false

abbrev pub everywhere : Points
everywhere p = true

-- what a point does to an element
abbrev pub Step : Type 0 → Type 0
Step A = Point → A → A

-- the points of a list that belong to the set, in order
abbrev pub folded : {A : Type 0} → Points → Step A → List Point → A → A
folded s step [] x = x
folded s step (p ∷ ps) x = folded s step ps (if s p then step p x else x)

-- the points whose index in the out is this one
abbrev pub onto : List ℕ → Point → Points
onto out j p = same_point (at out p) j

-- the element of the result at an index, where the points of a set alone are taken: what they do, one after another,
-- to that of the out
abbrev pub partial : {A : Type 0} → List ℕ → List ℕ → Step A → Points → (Point → A) → Point → A
partial extents out step s x j = folded (both s (onto out j)) step (points extents) (x j)

-- the element of the result: all points are taken
abbrev pub result : {A : Type 0} → List ℕ → List ℕ → Step A → (Point → A) → Point → A
result extents out step x j = partial extents out step everywhere x j

-- which of two points of one out index comes first does not matter
pub record OrderIsFree {A : Type 0} (Fit : A → Type 0) (extents out : List ℕ) (step : Step A) : Type 0 where
  pub fits : (p : Point) (a : A) → Below p extents → Fit a → Fit (step p a)
  pub swaps : (p q : Point) (a : A) → Below p extents → Below q extents → (p ≡ q → ⊥) → at out p ≡ at out q → Fit a
      → step p (step q a) ≡ step q (step p a)
