-- Loops over tiles of several dimensions, and windows of a result.
use Rattle.std.proofs.Common.{◌≡◌, ℕ, zero, suc, ◌+◌, ◌-◌, ◌*◌, ◌/◌, ◌<◌, ◌≤◌, min, List, [], ◌∷◌, Bool, true, false}
use Rattle.std.proofs.Common.{refl, sym, ap, ◌∙◌, subst, arith}
use Rattle.std.specs.Prelude.{length, get_or, set, ◌&&◌, ◌||◌}
use Rattle.std.proofs.lemmas.Bool.{and_parts, false_from_ne_true}
use Rattle.std.proofs.lemmas.Grind.{common_steps}
use Rattle.std.proofs.lemmas.List.{set-get_or}
use Rattle.xf_points.specs.Points.{Point, Each}
use Rattle.xf_points.specs.Folds.{Points, Step, either, partial, OrderIsFree}
use Rattle.xf_points.specs.Windows.{Window, no_window, Within, has, inside, turned, tile, narrowed, tile_count}
use Rattle.xf_points.specs.Windows.{repeated, nested}
use Rattle.xf_points.proofs.Sets.{same_functions}
use Rattle.xf_points.proofs.Maps.{within_length}
use Rattle.xf_points.proofs.Turns.{turn_is}

-- ---- windows changed in one dimension

-- the first so many tiles of a window
abbrev front : ℕ → ℕ → Window → Window
front size k w = record { offset = w.offset; size = min (k * size) w.size }

abbrev front_of : ℕ → ℕ → ℕ → List Window → List Window
front_of d size k ws = set ws d (front size k (get_or ws d no_window))

-- what holds of the windows in one dimension holds of the points
set_either : (d : ℕ) (ws : List Window) (a b c : Window) (p : Point) → ((i : ℕ) → (has a i || has b i) ≡ has c i)
    → d < length ws
    → (inside (set ws d a) p || inside (set ws d b) p) ≡ inside (set ws d c) p
set_either d [] a b c p h k = (let no : ⊥ = omega (arith, k) in absurd no)
set_either zero (w ∷ ws) a b c [] h k = refl
set_either zero (w ∷ ws) a b c (i ∷ p) h k = or_and (has a i) (has b i) (has c i) (inside ws p) (h i)
  where
    or_and : (a b c e : Bool) → (a || b) ≡ c → ((a && e) || (b && e)) ≡ (c && e)
    or_and true true c true h = rw (← h) refl
    or_and true true c false h = rw (← h) refl
    or_and true false c true h = rw (← h) refl
    or_and true false c false h = rw (← h) refl
    or_and false b c e h = rw (← h) refl
set_either (suc d) (w ∷ ws) a b c [] h k = refl
set_either (suc d) (w ∷ ws) a b c (i ∷ p) h k =
    and_or (has w i) (inside (set ws d a) p) (inside (set ws d b) p) (inside (set ws d c) p)
    (set_either d ws a b c p h (omega (arith, k)))
  where
    and_or : (e a b c : Bool) → (a || b) ≡ c → ((e && a) || (e && b)) ≡ (e && c)
    and_or true a b c h = h
    and_or false a b c h = refl

pub set_within : (d : ℕ) (ws : List Window) (es : List ℕ) (a : Window) → Within ws es
    → a.offset + a.size ≤ (get_or ws d no_window).offset + (get_or ws d no_window).size → Within (set ws d a) es
set_within d [] es a h k = h
set_within d (w ∷ ws) [] a h k = absurd h
set_within zero (w ∷ ws) (e ∷ es) a h k = (omega (arith, k, h.0), h.1)
set_within (suc d) (w ∷ ws) (e ∷ es) a h k = (h.0, set_within d ws es a h.1 k)

-- a smaller window in one dimension
set_smaller : (d : ℕ) (ws : List Window) (a : Window) (p : Point)
    → ((i : ℕ) → has a i ≡ true → has (get_or ws d no_window) i ≡ true) → d < length ws → inside (set ws d a) p ≡ true
    → inside ws p ≡ true
set_smaller d [] a p h k e = (let no : ⊥ = omega (arith, k) in absurd no)
set_smaller zero (w ∷ ws) a [] h k e = e
set_smaller zero (w ∷ ws) a (i ∷ p) h k e = (let q = and_parts (has a i) (inside ws p) e in rw (h i q.0) q.1)
set_smaller (suc d) (w ∷ ws) a [] h k e = e
set_smaller (suc d) (w ∷ ws) a (i ∷ p) h k e =
    (let q = and_parts (has w i) (inside (set ws d a) p) e in rw q.0 (set_smaller d ws a p h (omega (arith, k)) q.1))

set_apart : (d : ℕ) (ws : List Window) (a b : Window) (p : Point) → ((i : ℕ) → has a i ≡ true → has b i ≡ false)
    → d < length ws → inside (set ws d a) p ≡ true → inside (set ws d b) p ≡ false
set_apart d [] a b p h k e = (let no : ⊥ = omega (arith, k) in absurd no)
set_apart zero (w ∷ ws) a b [] h k e = refl
set_apart zero (w ∷ ws) a b (i ∷ p) h k e = (let q = and_parts (has a i) (inside ws p) e in rw (h i q.0) refl)
set_apart (suc d) (w ∷ ws) a b [] h k e = refl
set_apart (suc d) (w ∷ ws) a b (i ∷ p) h k e =
    (let q = and_parts (has w i) (inside (set ws d a) p) e in rw q.0 (set_apart d ws a b p h (omega (arith, k)) q.1))

-- a window of no size has no point
set_empty : (d : ℕ) (ws : List Window) (a : Window) (p : Point) → ((i : ℕ) → has a i ≡ false) → d < length ws
    → inside (set ws d a) p ≡ false
set_empty d [] a p h k = (let no : ⊥ = omega (arith, k) in absurd no)
set_empty zero (w ∷ ws) a [] h k = refl
set_empty zero (w ∷ ws) a (i ∷ p) h k = rw (h i) refl
set_empty (suc d) (w ∷ ws) a [] h k = refl
set_empty (suc d) (w ∷ ws) a (i ∷ p) h k =
    and_no (has w i) (inside (set ws d a) p) (set_empty d ws a p h (omega (arith, k)))
  where
    and_no : (b c : Bool) → c ≡ false → (b && c) ≡ false
    and_no true c e = e
    and_no false c e = refl

-- ---- tiles of one window

more : (k size : ℕ) → (k + 1) * size ≡ k * size + size
more k size = omega arith

front_more : (size k : ℕ) (w : Window) (i : ℕ) → (has (front size k w) i || has (tile size k w) i)
    ≡ has (front size (k + 1) w) i
front_more size k w i = rw (more k size) (go (k * size))
  where
    go : (m : ℕ)
        → (has (record { offset = w.offset; size = min m w.size }) i || has
        (record { offset = w.offset + m; size = min size (w.size - m) }) i)
        ≡ has (record { offset = w.offset; size = min (m + size) w.size }) i
    go m = grind arith

front_tile : (size k : ℕ) (w : Window) (i : ℕ) → has (front size k w) i ≡ true → has (tile size k w) i ≡ false
front_tile size k w i h = grind arith

tile_in : (size k : ℕ) (w : Window) (i : ℕ) → has (tile size k w) i ≡ true → has w i ≡ true
tile_in size k w i h = grind arith

front_none : (size : ℕ) (w : Window) (i : ℕ) → has (front size 0 w) i ≡ false
front_none size w i = grind arith

pub tile_within : (size k : ℕ) (w : Window) → k * size ≤ w.size
    → (tile size k w).offset + (tile size k w).size ≤ w.offset + w.size
tile_within size k w h = omega (arith, h)

count_covers : (z s : ℕ) → 0 < s → z ≤ (z + (s - 1)) / s * s
count_covers z s h = grind (arith, common_steps)

pub count_within : (z s k : ℕ) → 0 < s → k < (z + (s - 1)) / s → k * s < z
count_within z s k h l = grind (arith, common_steps)

-- ---- loops

-- what holds at the start of each turn holds behind the last
pub repeated_is : {A : Type 0} (f : ℕ → A → A) (g : ℕ → A) (n k : ℕ)
    → ((i : ℕ) → k ≤ i → i < k + n → f i (g i) ≡ g (i + 1)) → repeated k n f (g k) ≡ g (k + n)
repeated_is f g zero k h = ap g (omega arith)
repeated_is f g (suc n) k h =
    ap (repeated (k + 1) n f) (h k (omega arith) (omega arith))
    ∙ repeated_is f g n (k + 1) (λ i a b. h i (omega (arith, a)) (omega (arith, b)))
    ∙ ap g (omega arith)

-- each dimension is one of the windows', and each size is above 0
abbrev pub AreTiles : ℕ → List (ℕ × ℕ) → Type 0
AreTiles rank ts = Each (λ (t : ℕ × ℕ). (t.0 < rank) × (0 < t.1)) ts

module _ {A : Type 0} (Fit : A → Type 0) (es out : List ℕ) (step : Step A) (x : Point → A)
    (o : Each (λ d. d < length es) out) (free : OrderIsFree Fit es out step) (fits : (j : Point) → Fit (x j)) where
  set_same : (s t : Points) → ((p : Point) → s p ≡ t p) → partial es out step s x ≡ partial es out step t x
  set_same s t h = ap (λ r. partial es out step r x) (same_functions s t h)

  pub nested_is : (ts : List (ℕ × ℕ)) (ws : List Window) (s : Points) → AreTiles (length es) ts → Within ws es
      → ((p : Point) → s p ≡ true → inside ws p ≡ false)
      → nested ts (turned out step) ws (partial es out step s x) ≡ partial es out step (either s (inside ws)) x
  nested_is [] ws s a h apart =
      turn_is Fit es out step ws s x h
      (subst (λ n. Each (λ d. d < n) out) (sym (within_length ws es h)) o) free fits apart
  nested_is (t ∷ ts) ws s a h apart =
      let d = t.0 in
      let z = t.1 in
      let w = get_or ws d no_window in
      let n = tile_count z w in
      let l : d < length ws = subst (λ n. d < n) (sym (within_length ws es h)) a.0.0 in
      let taken : ℕ → Points = (λ k. either s (inside (front_of d z k ws))) in
      let begins : partial es out step s x ≡ partial es out step (taken 0) x =
      set_same s (taken 0)
      (λ p. sym (ap (λ b. s p || b) (set_empty d ws (front z 0 w) p (front_none z w) l) ∙ or_none (s p))) in
      let ends : taken (0 + n) ≡ either s (inside ws) = (
      let m : min ((0 + n) * z) w.size ≡ w.size = (let c = count_covers w.size z a.0.1 in omega (arith, c)) in
      let f : front z (0 + n) w ≡ w = ap (λ q. record { offset = w.offset; size = q }) m in
      let g : front_of d z (0 + n) ws ≡ ws = ap (set ws d) f ∙ set-get_or ws d no_window in
      ap (λ (vs : List Window). either s (inside vs)) g) in
      ap (repeated 0 n (λ k. nested ts (turned out step) (narrowed d z k ws))) begins
      ∙ repeated_is (λ k. nested ts (turned out step) (narrowed d z k ws)) (λ k. partial es out step (taken k) x) n 0
      (λ k a1 a2.
      let small = count_within w.size z k a.0.1 (omega (arith, a2)) in
      nested_is ts (narrowed d z k ws) (taken k) a.1
      (set_within d ws es (tile z k w) h (tile_within z k w (omega (arith, small))))
      (λ p e. away (s p) (inside (front_of d z k ws) p) (inside (narrowed d z k ws) p) e
      (λ u. false_from_ne_true _
      (λ v. let b = set_smaller d ws (tile z k w) p (tile_in z k w) l v in let c = apart p u in cc))
      (λ u. set_apart d ws (front z k w) (tile z k w) p (front_tile z k w) l u))
      ∙ set_same (either (taken k) (inside (narrowed d z k ws))) (taken (k + 1))
      (λ p. or_assoc (s p) (inside (front_of d z k ws) p) (inside (narrowed d z k ws) p)
      ∙ ap (λ b. s p || b)
      (set_either d ws (front z k w) (tile z k w) (front z (k + 1) w) p (front_more z k w) l)))
      ∙ ap (λ r. partial es out step r x) ends
    where
      or_none : (b : Bool) → (b || false) ≡ b
      or_none true = refl
      or_none false = refl

      or_assoc : (a b c : Bool) → ((a || b) || c) ≡ (a || (b || c))
      or_assoc true b c = refl
      or_assoc false b c = refl

      away : (a b c : Bool) → (a || b) ≡ true → (a ≡ true → c ≡ false) → (b ≡ true → c ≡ false) → c ≡ false
      away true b c e f g = f refl
      away false b c e f g = g e
