-- Points of an iteration space and indices of tensors, in row-major order (MLIR: the linalg dialect, builtin tensor
-- types).
use Rattle.std.specs.Prelude.{ℕ, zero, suc, ◌+◌, ◌*◌, ◌/◌, ◌%◌, ◌<◌, List, [], ◌∷◌, map, flat_map, get_or, Bool, true}
use Rattle.std.specs.Prelude.{false, ◌==◌, ◌&&◌}

-- one number for each dimension: a point of an iteration space, an index of a tensor, or the sizes themselves
abbrev pub Point : Type 0
Point = List ℕ

-- the numbers from one on, so many
abbrev pub counted : ℕ → ℕ → List ℕ
counted from zero = []
counted from (suc k) = from ∷ counted (from + 1) k

-- all points below these extents, in lexicographic order
abbrev pub points : List ℕ → List Point
points [] = [] ∷ []
points (e ∷ es) = flat_map (λ i. map (λ p. i ∷ p) (points es)) (counted 0 e)

-- each item has the property
abbrev pub Each : {A : Type 0} → (A → Type 0) → List A → Type 0
Each P [] = Unit {0}
Each P (x ∷ xs) = P x × Each P xs

-- a point lies below these extents
abbrev pub Below : Point → List ℕ → Type 0
Below [] [] = Unit {0}
Below [] (e ∷ es) = ⊥
Below (i ∷ p) [] = ⊥
Below (i ∷ p) (e ∷ es) = (i < e) × Below p es

abbrev pub same_point : Point → Point → Bool
same_point [] [] = true
same_point [] (j ∷ q) = false
same_point (i ∷ p) [] = false
same_point (i ∷ p) (j ∷ q) = (i == j) && same_point p q

abbrev pub product : List ℕ → ℕ
product [] = 1
product (n ∷ ns) = n * product ns

-- what a map selects, by the numbers of its dimensions: the coordinates of a point, or the extents, or the windows
abbrev pub picked : {A : Type 0} → A → List ℕ → List A → List A
picked none ds xs = map (λ d. get_or xs d none) ds

abbrev pub at : List ℕ → Point → Point
at ds p = picked 0 ds p

-- ---- tensors as functions of indices

-- the elements of a tensor of this shape, in row-major order
abbrev pub listed : {A : Type 0} → List ℕ → (Point → A) → List A
listed shape f = map f (points shape)

-- the number of an index among those of the shape
abbrev pub place : List ℕ → Point → ℕ
place [] p = 0
place (e ∷ es) [] = 0
place (e ∷ es) (i ∷ p) = i * product es + place es p

abbrev pub element : {A : Type 0} → A → List ℕ → List A → Point → A
element none shape elems p = get_or elems (place shape p) none

-- the index with this number
abbrev pub point_at : List ℕ → ℕ → Point
point_at [] k = []
point_at (e ∷ es) k = k / product es ∷ point_at es (k % product es)
