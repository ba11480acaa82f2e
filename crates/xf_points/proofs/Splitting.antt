-- A reduction split over partial accumulators gives the reduction.
use Rattle.std.proofs.Common.{◌≡◌, ◌⊎◌, ℕ, zero, suc, ◌+◌, ◌*◌, ◌/◌, ◌%◌, ◌<◌, ◌≤◌, List, [], ◌∷◌, ◌++◌, Bool, true}
use Rattle.std.proofs.Common.{false, refl, sym, ap, ◌∙◌, subst, inl, inr, arith}
use Rattle.std.specs.Prelude.{length, get_or, ◌==◌, ◌&&◌, ◌||◌}
use Rattle.std.proofs.lemmas.Bool.{false_from_ne_true, eqb-true, eq-eqb, or_right, cases_eq, or_cases}
use Rattle.std.proofs.lemmas.List.{get_or-set_same, get_or-set_other, length-map}
use Rattle.std.proofs.lemmas.Grind.{common_steps}
use Rattle.xf_points.specs.Points.{Point, Each, Below, same_point, at}
use Rattle.xf_points.specs.Folds.{Points}
use Rattle.xf_points.specs.Operands.{Among}
use Rattle.xf_points.specs.Windows.{Window, no_window, whole, Within, has, inside, placed, repeated}
use Rattle.xf_points.specs.Splitting.{turn_windows}
use Rattle.xf_points.proofs.Maps.{below_length, within_length, get_placed}
use Rattle.xf_points.proofs.Nests.{set_within}
use Rattle.xf_points.proofs.Results.{whole_within, inside_each, has_whole, get_below}

-- ---- numbers

pub times_more : (k t m : ℕ) → k < t → k * m + m ≤ t * m
times_more k zero m h = (let no : ⊥ = omega (arith, h) in absurd no)
times_more zero (suc t) m h = omega arith
times_more (suc k) (suc t) m h = (let a = times_more k t m (omega (arith, h)) in omega (arith, a))

same_rest : (k l m f g : ℕ) → f < m → g < m → k * m + f ≡ l * m + g → f ≡ g
same_rest zero zero m f g h i e = omega (arith, e)
same_rest zero (suc l) m f g h i e = (let no : ⊥ = omega (arith, e, h) in absurd no)
same_rest (suc k) zero m f g h i e = (let no : ⊥ = omega (arith, e, i) in absurd no)
same_rest (suc k) (suc l) m f g h i e = same_rest k l m f g h i (omega (arith, e))

quotient : (i t m : ℕ) → 0 < m → i < t * m → (i / m < t) × ((i / m * m + i % m ≡ i) × (i % m < m))
quotient i t m h k = (grind (arith, common_steps), (grind (arith, common_steps), grind (arith, common_steps)))

-- ---- classes of points, by the number of the reduced dimension

module _ (r factor : ℕ) where
  unfoldable pub at_number : ℕ → Points
  at_number m p = get_or p r 0 == m

  -- of the first so many turns, the number f
  unfoldable pub class : ℕ → ℕ → Points
  class zero f p = false
  class (suc t) f p = class t f p || at_number (t * factor + f) p

  -- the first so many numbers
  unfoldable pub classes : ℕ → ℕ → Points
  classes t zero p = false
  classes t (suc f) p = classes t f p || class t f p

  class_says : (t f : ℕ) (p : Point) → class t f p ≡ true → (k : ℕ) × ((k < t) × (get_or p r 0 ≡ k * factor + f))
  unfolding class at_number
  class_says zero f p h = cc
  class_says (suc t) f p h = cases (or_cases (class t f p) (get_or p r 0 == t * factor + f) h) (class_says t f p)
    where
      cases : (class t f p ≡ true) ⊎ ((get_or p r 0 == t * factor + f) ≡ true)
          → (class t f p ≡ true → (k : ℕ) × ((k < t) × (get_or p r 0 ≡ k * factor + f))) → (k : ℕ)
          × ((k < suc t) × (get_or p r 0 ≡ k * factor + f))
      cases (inl a) before = (let b = before a in (b.0, (omega (arith, b.1.0), b.1.1)))
      cases (inr a) before = (t, (omega arith, eqb-true (get_or p r 0) (t * factor + f) a))

  class_at : (t f k : ℕ) (p : Point) → k < t → get_or p r 0 ≡ k * factor + f → class t f p ≡ true
  unfolding class at_number
  class_at zero f k p h e = (let no : ⊥ = omega (arith, h) in absurd no)
  class_at (suc t) f k p h e = cases (cases_eq k t) (λ l. class_at t f k p l e)
    where
      cases : (k ≡ t) ⊎ (k ≡ t → ⊥) → (k < t → class t f p ≡ true) → (class t f p || (get_or p r 0 == t * factor + f))
          ≡ true
      cases (inl q) before =
          or_right (class t f p) (get_or p r 0 == t * factor + f)
          (eq-eqb (get_or p r 0) (t * factor + f) (e ∙ ap (λ m. m * factor + f) q))
      cases (inr q) before = (let b = before (grind (arith, h, q)) in rw b refl)

  classes_says : (t f : ℕ) (p : Point) → classes t f p ≡ true → (g : ℕ) × ((g < f) × (class t g p ≡ true))
  unfolding classes
  classes_says t zero p h = cc
  classes_says t (suc f) p h = cases (or_cases (classes t f p) (class t f p) h) (classes_says t f p)
    where
      cases : (classes t f p ≡ true) ⊎ (class t f p ≡ true)
          → (classes t f p ≡ true → (g : ℕ) × ((g < f) × (class t g p ≡ true))) → (g : ℕ)
          × ((g < suc f) × (class t g p ≡ true))
      cases (inl a) before = (let b = before a in (b.0, (omega (arith, b.1.0), b.1.1)))
      cases (inr a) before = (f, (omega arith, a))

  classes_at : (t f g : ℕ) (p : Point) → g < f → class t g p ≡ true → classes t f p ≡ true
  unfolding classes
  classes_at t zero g p h e = (let no : ⊥ = omega (arith, h) in absurd no)
  classes_at t (suc f) g p h e = cases (cases_eq g f) (λ l. classes_at t f g p l e)
    where
      cases : (g ≡ f) ⊎ (g ≡ f → ⊥) → (g < f → classes t f p ≡ true) → (classes t f p || class t f p) ≡ true
      cases (inl q) before = or_right (classes t f p) (class t f p) (subst (λ m. class t m p ≡ true) q e)
      cases (inr q) before = (let b = before (grind (arith, h, q)) in rw b refl)

  pub class_apart : (t f : ℕ) (p : Point) → 0 < factor → class t f p ≡ true → at_number (t * factor + f) p ≡ false
  unfolding at_number
  class_apart t f p h e = false_from_ne_true (get_or p r 0 == t * factor + f) (λ u.
      let a = class_says t f p e in
      let b = eqb-true (get_or p r 0) (t * factor + f) u in
      let m = times_more a.0 t factor a.1.0 in
      let q = a.1.1 in
      let no : ⊥ = omega (arith, b, m, q, h) in no)

  pub classes_apart : (t f : ℕ) (p : Point) → f < factor → classes t f p ≡ true → class t f p ≡ false
  classes_apart t f p h e = false_from_ne_true (class t f p) (λ u.
      let a = classes_says t f p e in
      let b = class_says t a.0 p a.1.1 in
      let d = class_says t f p u in
      let l = a.1.0 in
      let q = same_rest b.0 d.0 factor a.0 f (omega (arith, h, l)) h (sym b.1.1 ∙ d.1.1) in
      let no : ⊥ = omega (arith, q, l) in no)

  pub classes_all : (t : ℕ) (p : Point) → 0 < factor → get_or p r 0 < t * factor → classes t factor p ≡ true
  classes_all t p h l =
      let q = quotient (get_or p r 0) t factor h l in
      classes_at t factor (get_or p r 0 % factor) p q.1.1
      (class_at t (get_or p r 0 % factor) (get_or p r 0 / factor) p q.0 (sym q.1.0))

-- ---- what holds in each turn

pub repeated_along : {X : Type 0} (f : ℕ → X → X) (I : ℕ → X → Type 0) (n k : ℕ) (x : X)
    → ((i : ℕ) (y : X) → i < k + n → I i y → I (i + 1) (f i y)) → I k x → I (k + n) (repeated k n f x)
repeated_along f I zero k x h i = subst (λ m. I m x) (omega arith) i
repeated_along f I (suc n) k x h i =
    subst (λ m. I m (repeated (k + 1) n f (f k x))) (omega arith)
    (repeated_along f I n (k + 1) (f k x) (λ m y l. h m y (omega (arith, l))) (h k x (omega arith) i))

-- ---- points of a turn

pub same_ends : (a b : Point) (i k : ℕ) → length a ≡ length b → same_point (a ++ i ∷ []) (b ++ k ∷ [])
    ≡ (same_point a b && (i == k))
same_ends [] [] i k h = and_true (i == k)
  where
    and_true : (b : Bool) → (b && true) ≡ b
    and_true true = refl
    and_true false = refl
same_ends [] (y ∷ b) i k h = cc
same_ends (x ∷ a) [] i k h = cc
same_ends (x ∷ a) (y ∷ b) i k h =
    ap (λ c. (x == y) && c) (same_ends a b i k (cc)) ∙ and_assoc (x == y) (same_point a b) (i == k)
  where
    and_assoc : (a b c : Bool) → (a && (b && c)) ≡ ((a && b) && c)
    and_assoc true b c = refl
    and_assoc false b c = refl

get_whole : (es : List ℕ) (d : ℕ) → d < length es → get_or (whole es) d no_window
    ≡ record { offset = 0; size = get_or es d 0 }
get_whole [] d h = (let no : ⊥ = omega (arith, h) in absurd no)
get_whole (e ∷ es) zero h = refl
get_whole (e ∷ es) (suc d) h = get_whole es d (omega (arith, h))

length_whole : (es : List ℕ) → length (whole es) ≡ length es
length_whole es = length-map es (λ e. record { offset = 0; size = e })

module _ (es : List ℕ) (r factor t : ℕ) (h : r < length es) (fits : t * factor + factor ≤ get_or es r 0) where
  unfoldable pub windows : List Window
  windows = turn_windows es r factor t

  windows_r : get_or windows r no_window ≡ record { offset = t * factor; size = factor }
  unfolding windows
  windows_r = get_or-set_same (whole es) r _ no_window (subst (λ n. r < n) (sym (length_whole es)) h)

  windows_d : (d : ℕ) → d < length es → (d ≡ r → ⊥) → get_or windows d no_window
      ≡ record { offset = 0; size = get_or es d 0 }
  unfolding windows
  windows_d d l n = get_or-set_other (whole es) r d _ no_window n ∙ get_whole es d l

  pub windows_within : Within windows es
  unfolding windows
  windows_within = set_within r (whole es) es _ (whole_within es) (rw (get_whole es r h) (omega (arith, fits)))

  pub windows_length : length windows ≡ length es
  windows_length = within_length windows es windows_within

  pub placed_others : (ds : List ℕ) (p : Point) → length p ≡ length windows → Each (λ d. d < length es) ds
      → (Among r ds → ⊥) → at ds (placed windows p) ≡ at ds p
  placed_others [] p l b n = refl
  placed_others (d ∷ ds) p l b n =
      let a : get_or (placed windows p) d 0 ≡ get_or p d 0 = get_placed d windows p l
      ∙ ap (λ (w : Window). w.offset + get_or p d 0) (windows_d d b.0 (λ e. n (inl (sym e)))) ∙ omega arith in
      let c = placed_others ds p l b.1 (λ m. n (inr m)) in cc

  pub placed_r : (p : Point) → length p ≡ length windows → get_or (placed windows p) r 0 ≡ t * factor + get_or p r 0
  placed_r p l = get_placed r windows p l ∙ ap (λ (w : Window). w.offset + get_or p r 0) windows_r

  pub inside_at : (p : Point) (f : ℕ) → Below p es → f < factor → get_or p r 0 ≡ t * factor + f → inside windows p
      ≡ true
  inside_at p f b l e =
      inside_each windows p (below_length p es b ∙ sym windows_length)
      (λ d k. cases d (subst (λ n. d < n) windows_length k) (cases_eq d r))
    where
      has_r : (f i : ℕ) → f < factor → i ≡ t * factor + f → has (record { offset = t * factor; size = factor }) i
          ≡ true
      has_r f i l e = grind (arith, l, e)

      cases : (d : ℕ) → d < length es → (d ≡ r) ⊎ (d ≡ r → ⊥) → has (get_or windows d no_window) (get_or p d 0) ≡ true
      cases d k (inl q) = rw (q, windows_r) (has_r f (get_or p r 0) l e)
      cases d k (inr q) = rw (windows_d d k q) (has_whole (get_or es d 0) (get_or p d 0) (get_below d p es b k))
