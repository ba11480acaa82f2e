-- Windows: an offset and a size for each dimension (MLIR: tensor.extract_slice and tensor.insert_slice with strides of
-- 1).
use Rattle.std.specs.Prelude.{ℕ, zero, suc, ◌+◌, ◌-◌, ◌*◌, ◌/◌, ◌≤◌, min, List, [], ◌∷◌, map, get_or, set, Bool, true}
use Rattle.std.specs.Prelude.{false, ◌&&◌, nat_lt, nat_le, if◌then◌else◌}
use Rattle.xf_points.specs.Points.{Point, picked}
use Rattle.xf_points.specs.Folds.{Points, Step, result}

pub record Window : Type 0 where
  pub offset : ℕ
  pub size : ℕ

abbrev pub no_window : Window
no_window = record { offset = 0; size = 0 }

abbrev pub sizes : List Window → List ℕ
sizes ws = map (λ (w : Window). w.size) ws

abbrev pub whole : List ℕ → List Window
whole es = map (λ e. record { offset = 0; size = e }) es

-- the windows lie within these extents
abbrev pub Within : List Window → List ℕ → Type 0
Within [] [] = Unit {0}
Within [] (e ∷ es) = ⊥
Within (w ∷ ws) [] = ⊥
Within (w ∷ ws) (e ∷ es) = (w.offset + w.size ≤ e) × Within ws es

-- whether a number lies in a window
abbrev pub has : Window → ℕ → Bool
has w i = nat_le w.offset i && nat_lt i (w.offset + w.size)

-- the points that lie in the windows
abbrev pub inside : List Window → Points
inside [] [] = true
inside [] (i ∷ p) = false
inside (w ∷ ws) [] = false
inside (w ∷ ws) (i ∷ p) = has w i && inside ws p

-- a point of the windows as a point of the whole, and back
abbrev pub placed : List Window → Point → Point
placed [] p = p
placed (w ∷ ws) [] = []
placed (w ∷ ws) (i ∷ p) = (w.offset + i) ∷ placed ws p

abbrev pub taken_from : List Window → Point → Point
taken_from [] p = p
taken_from (w ∷ ws) [] = []
taken_from (w ∷ ws) (i ∷ p) = (i - w.offset) ∷ taken_from ws p

-- the windows of an operand, by its map
abbrev pub windows_at : List ℕ → List Window → List Window
windows_at ds ws = picked no_window ds ws

-- a tensor's elements in a window, and a tensor with the window overwritten
abbrev pub cut : {A : Type 0} → List Window → (Point → A) → Point → A
cut ws x j = x (placed ws j)

abbrev pub pasted : {A : Type 0} → List Window → (Point → A) → (Point → A) → Point → A
pasted ws y x j = if inside ws j then y (taken_from ws j) else x j

-- ---- turns

-- the operation on the windows of its operands, put into the windows of the out: what a turn of a tiled operation does
abbrev pub turned : {A : Type 0} → List ℕ → Step A → List Window → (Point → A) → Point → A
turned out step ws y =
    pasted (windows_at out ws) (result (sizes ws) out (λ p. step (placed ws p)) (cut (windows_at out ws) y)) y

-- ---- tiles

-- the window with this number among those of a size that a window falls into; the last may be smaller
abbrev pub tile : ℕ → ℕ → Window → Window
tile size k w = record { offset = w.offset + k * size; size = min size (w.size - k * size) }

-- the same in one dimension of several
abbrev pub narrowed : ℕ → ℕ → ℕ → List Window → List Window
narrowed d size k ws = set ws d (tile size k (get_or ws d no_window))

-- so many tiles cover a window
abbrev pub tile_count : ℕ → Window → ℕ
tile_count size w = (w.size + (size - 1)) / size

-- what is done for the numbers from one on, so many
abbrev pub repeated : {A : Type 0} → ℕ → ℕ → (ℕ → A → A) → A → A
repeated k zero f x = x
repeated k (suc n) f x = repeated (k + 1) n f (f k x)

-- loops over the tiles of dimensions, the first outermost: of each dimension its number and the size of its tiles
abbrev pub nested : {A : Type 0} → List (ℕ × ℕ) → (List Window → A → A) → List Window → A → A
nested [] body ws x = body ws x
nested (t ∷ ts) body ws x =
    repeated 0 (tile_count t.1 (get_or ws t.0 no_window)) (λ k. nested ts body (narrowed t.0 t.1 k ws)) x
