-- Structured operations: operands read through maps, a body, and their results (MLIR: the linalg dialect).
use Rattle.std.specs.Prelude.{◌≡◌, ℕ, ◌<◌, ◌⊎◌, List, [], ◌∷◌, map, length, get_or, ◌==◌, if◌then◌else◌}
use Rattle.xf_points.specs.Points.{Point, counted, at}
use Rattle.xf_points.specs.Folds.{Step, result}
use Rattle.xf_points.specs.Windows.{Window, no_window, sizes, placed, windows_at, cut, pasted}

-- an operand that is read: the dimensions that its map selects, and its elements; a scalar selects none
pub record Operand (A : Type 0) : Type 0 where
  pub dims : List ℕ
  pub items : Point → A

-- what a body computes at a point, from the elements that are read there and that of the out
abbrev pub BodyOf : Type 0 → Type 0
BodyOf A = Point → List A → A → A

abbrev pub reads : {A : Type 0} → List (Operand A) → Point → List A
reads ins p = map (λ (o : Operand _). o.items (at o.dims p)) ins

abbrev pub step_of : {A : Type 0} → BodyOf A → List (Operand A) → Step A
step_of body ins p a = body p (reads ins p) a

-- the result of a structured operation at an index
abbrev pub structured : {A : Type 0} → List ℕ → List ℕ → BodyOf A → List (Operand A) → (Point → A) → Point → A
structured extents out body ins x j = result extents out (step_of body ins) x j

-- the operands in the windows, by their maps, and the body at the points of the windows
abbrev pub windowed : {A : Type 0} → List Window → List (Operand A) → List (Operand A)
windowed ws ins = map (λ (o : Operand _). record { dims = o.dims; items = cut (windows_at o.dims ws) o.items }) ins

abbrev pub body_in : {A : Type 0} → List Window → BodyOf A → BodyOf A
body_in ws body p read a = body (placed ws p) read a

-- the operation on windows of its operands
abbrev pub structured_in : {A : Type 0} → List Window → List ℕ → BodyOf A → List (Operand A) → (Point → A) → Point → A
structured_in ws out body ins x j =
    structured (sizes ws) out (body_in ws body) (windowed ws ins) (cut (windows_at out ws) x) j

-- a turn of the tiled operation
abbrev pub tiled_turn : {A : Type 0} → List ℕ → BodyOf A → List (Operand A) → List Window → (Point → A) → Point → A
tiled_turn out body ins ws y = pasted (windows_at out ws) (structured_in ws out body ins y) y

-- ---- dimensions of the out, and others

abbrev pub Among : ℕ → List ℕ → Type 0
Among d [] = ⊥
Among d (e ∷ es) = (d ≡ e) ⊎ Among d es

-- each dimension is one of the out's: no reductions
abbrev pub AllParallel : ℕ → List ℕ → Type 0
AllParallel rank out = (d : ℕ) → d < rank → Among d out

-- a dimension that is not the out's is whole
abbrev pub ReductionsWhole : List ℕ → List Window → List ℕ → Type 0
ReductionsWhole out ws es =
    (d : ℕ) → d < length es → Among d out ⊎ (get_or ws d no_window ≡ record { offset = 0; size = get_or es d 0 })

-- what joins elements in a reduction: it keeps their width, and the order does not matter
pub record Joins {A : Type 0} (Fit : A → Type 0) (c : A → A → A) : Type 0 where
  pub fits : (x y : A) → Fit x → Fit y → Fit (c x y)
  pub commutes : (x y : A) → Fit x → Fit y → c x y ≡ c y x
  pub associates : (x y z : A) → Fit x → Fit y → Fit z → c (c x y) z ≡ c x (c y z)

-- the windows of a space that lead to these of the out, reductions whole
abbrev pub window_for : ℕ → ℕ → List ℕ → List Window → Window
window_for d extent [] vs = record { offset = 0; size = extent }
window_for d extent (k ∷ ks) [] = record { offset = 0; size = extent }
window_for d extent (k ∷ ks) (v ∷ vs) = if k == d then v else window_for d extent ks vs

abbrev pub windows_from : List ℕ → List Window → List ℕ → List Window
windows_from out vs es = map (λ d. window_for d (get_or es d 0) out vs) (counted 0 (length es))

-- no dimension stands twice
abbrev pub OnceEach : List ℕ → Type 0
OnceEach [] = Unit {0}
OnceEach (d ∷ ds) = (Among d ds → ⊥) × OnceEach ds
