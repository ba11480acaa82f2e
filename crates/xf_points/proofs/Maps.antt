-- Points, windows and extents that a map selects.
use Rattle.std.proofs.Common.{◌≡◌, ℕ, zero, suc, ◌+◌, ◌-◌, ◌<◌, ◌≤◌, List, [], ◌∷◌, true, refl, ap, arith}
use Rattle.std.specs.Prelude.{length, get_or, ◌==◌, ◌&&◌}
use Rattle.std.proofs.lemmas.Bool.{and_parts}
use Rattle.xf_points.specs.Points.{Point, Each, Below, same_point, picked, at}
use Rattle.xf_points.specs.Windows.{Window, no_window, sizes, Within, has, inside, placed, taken_from, windows_at}

pub below_length : (p es : List ℕ) → Below p es → length p ≡ length es
below_length [] [] h = refl
below_length [] (e ∷ es) h = absurd h
below_length (i ∷ p) [] h = absurd h
below_length (i ∷ p) (e ∷ es) h = ap suc (below_length p es h.1)

pub within_length : (ws : List Window) (es : List ℕ) → Within ws es → length ws ≡ length es
within_length [] [] h = refl
within_length [] (e ∷ es) h = absurd h
within_length (w ∷ ws) [] h = absurd h
within_length (w ∷ ws) (e ∷ es) h = ap suc (within_length ws es h.1)

pub sizes_length : (ws : List Window) → length (sizes ws) ≡ length ws
sizes_length [] = refl
sizes_length (w ∷ ws) = ap suc (sizes_length ws)

pub length-picked : {A : Type 0} (none : A) (ds : List ℕ) (xs : List A) → length (picked none ds xs) ≡ length ds
length-picked none [] xs = refl
length-picked none (d ∷ ds) xs = ap suc (length-picked none ds xs)

-- ---- a point of the windows, as a point of the whole

pub get_placed : (d : ℕ) (ws : List Window) (p : Point) → length p ≡ length ws → get_or (placed ws p) d 0
    ≡ (get_or ws d no_window).offset + get_or p d 0
get_placed d [] [] h = refl
get_placed d [] (i ∷ p) h = cc
get_placed d (w ∷ ws) [] h = cc
get_placed zero (w ∷ ws) (i ∷ p) h = refl
get_placed (suc d) (w ∷ ws) (i ∷ p) h = get_placed d ws p (cc)

pub at_placed : (ds : List ℕ) (ws : List Window) (p : Point) → length p ≡ length ws → at ds (placed ws p)
    ≡ placed (windows_at ds ws) (at ds p)
at_placed [] ws p h = refl
at_placed (d ∷ ds) ws p h = let a = get_placed d ws p h in let b = at_placed ds ws p h in cc

pub placed_below : (ws : List Window) (es : List ℕ) (p : Point) → Within ws es → Below p (sizes ws)
    → Below (placed ws p) es
placed_below [] [] p h b = b
placed_below [] (e ∷ es) p h b = absurd h
placed_below (w ∷ ws) [] p h b = absurd h
placed_below (w ∷ ws) (e ∷ es) [] h b = absurd b
placed_below (w ∷ ws) (e ∷ es) (i ∷ p) h b = (omega (arith, h.0, b.0), placed_below ws es p h.1 b.1)

-- ---- the windows of an operand

has_parts : (w : Window) (i : ℕ) → has w i ≡ true → (w.offset ≤ i) × (i < w.offset + w.size)
has_parts w i h = grind arith

pub inside_length : (ws : List Window) (p : Point) → inside ws p ≡ true → length p ≡ length ws
inside_length [] [] h = refl
inside_length [] (i ∷ p) h = cc
inside_length (w ∷ ws) [] h = cc
inside_length (w ∷ ws) (i ∷ p) h = ap suc (inside_length ws p (and_parts (has w i) (inside ws p) h).1)

get_inside : (d : ℕ) (ws : List Window) (p : Point) → inside ws p ≡ true → d < length ws
    → has (get_or ws d no_window) (get_or p d 0) ≡ true
get_inside d [] p h k = (let no : ⊥ = omega (arith, k) in absurd no)
get_inside d (w ∷ ws) [] h k = cc
get_inside zero (w ∷ ws) (i ∷ p) h k = (and_parts (has w i) (inside ws p) h).0
get_inside (suc d) (w ∷ ws) (i ∷ p) h k = get_inside d ws p (and_parts (has w i) (inside ws p) h).1 (omega arith)

-- a point in the windows has its index in those of an operand
pub at_inside : (ds : List ℕ) (ws : List Window) (p : Point) → Each (λ d. d < length ws) ds → inside ws p ≡ true
    → inside (windows_at ds ws) (at ds p) ≡ true
at_inside [] ws p h e = refl
at_inside (d ∷ ds) ws p h e = rw (get_inside d ws p e h.0) (at_inside ds ws p h.1 e)

-- ---- equal points

pub same_point-true : (p q : Point) → same_point p q ≡ true → p ≡ q
same_point-true [] [] h = refl
same_point-true [] (j ∷ q) h = cc
same_point-true (i ∷ p) [] h = cc
same_point-true (i ∷ p) (j ∷ q) h =
    let a : i ≡ j = (let b = (and_parts (i == j) (same_point p q) h).0 in grind arith) in
    let c = same_point-true p q (and_parts (i == j) (same_point p q) h).1 in cc

shifted_same : (w : Window) (i j : ℕ) → has w j ≡ true → (w.offset + i == j) ≡ (i == j - w.offset)
shifted_same w i j h = (let a = has_parts w j h in grind arith)

pub same_placed : (ws : List Window) (q j : Point) → length q ≡ length ws → inside ws j ≡ true
    → same_point (placed ws q) j ≡ same_point q (taken_from ws j)
same_placed [] q [] l h = refl
same_placed [] q (i ∷ j) l h = cc
same_placed (w ∷ ws) q [] l h = cc
same_placed (w ∷ ws) [] (i ∷ j) l h = cc
same_placed (w ∷ ws) (k ∷ q) (i ∷ j) l h =
    let a = and_parts (has w i) (inside ws j) h in
    rw (shifted_same w k i a.0) (ap (λ b. (k == i - w.offset) && b) (same_placed ws q j (cc) a.1))

pub placed_back : (ws : List Window) (j : Point) → inside ws j ≡ true → placed ws (taken_from ws j) ≡ j
placed_back [] j h = refl
placed_back (w ∷ ws) [] h = cc
placed_back (w ∷ ws) (i ∷ j) h =
    let a = and_parts (has w i) (inside ws j) h in
    let b = has_parts w i a.0 in
    let c : w.offset + (i - w.offset) ≡ i = omega (arith, b.0) in
    let d = placed_back ws j a.1 in cc

-- ---- windows and extents of operands

get_sizes : (d : ℕ) (ws : List Window) → (get_or ws d no_window).size ≡ get_or (sizes ws) d 0
get_sizes d [] = refl
get_sizes zero (w ∷ ws) = refl
get_sizes (suc d) (w ∷ ws) = get_sizes d ws

pub sizes_at : (ds : List ℕ) (ws : List Window) → sizes (windows_at ds ws) ≡ at ds (sizes ws)
sizes_at [] ws = refl
sizes_at (d ∷ ds) ws = let a = get_sizes d ws in let b = sizes_at ds ws in cc

get_within : (d : ℕ) (ws : List Window) (es : List ℕ) → Within ws es → d < length es
    → (get_or ws d no_window).offset + (get_or ws d no_window).size ≤ get_or es d 0
get_within d [] [] h k = (let no : ⊥ = omega (arith, k) in absurd no)
get_within d [] (e ∷ es) h k = absurd h
get_within d (w ∷ ws) [] h k = absurd h
get_within zero (w ∷ ws) (e ∷ es) h k = h.0
get_within (suc d) (w ∷ ws) (e ∷ es) h k = get_within d ws es h.1 (omega (arith, k))

-- the windows of an operand lie within it
pub within_at : (ds : List ℕ) (ws : List Window) (es : List ℕ) → Within ws es → Each (λ d. d < length es) ds
    → Within (windows_at ds ws) (at ds es)
within_at [] ws es h k = tt
within_at (d ∷ ds) ws es h k = (get_within d ws es h k.0, within_at ds ws es h k.1)

get_less : (d : ℕ) (p es : List ℕ) → Below p es → d < length es → get_or p d 0 < get_or es d 0
get_less d [] [] b k = (let no : ⊥ = omega (arith, k) in absurd no)
get_less d [] (e ∷ es) b k = absurd b
get_less d (i ∷ p) [] b k = absurd b
get_less zero (i ∷ p) (e ∷ es) b k = b.0
get_less (suc d) (i ∷ p) (e ∷ es) b k = get_less d p es b.1 (omega (arith, k))

pub at_below : (ds : List ℕ) (p es : List ℕ) → Below p es → Each (λ d. d < length es) ds → Below (at ds p) (at ds es)
at_below [] p es b k = tt
at_below (d ∷ ds) p es b k = (get_less d p es b k.0, at_below ds p es b k.1)

pub taken_below : (ws : List Window) (j : Point) → inside ws j ≡ true → Below (taken_from ws j) (sizes ws)
taken_below [] [] h = tt
taken_below [] (i ∷ j) h = cc
taken_below (w ∷ ws) [] h = cc
taken_below (w ∷ ws) (i ∷ j) h =
    let a = and_parts (has w i) (inside ws j) h in
    let b = has_parts w i a.0 in
    (omega (arith, b.0, b.1), taken_below ws j a.1)

pub same_point-self : (p : Point) → same_point p p ≡ true
same_point-self [] = refl
same_point-self (i ∷ p) = rw (same_point-self p) (one i)
  where
    one : (i : ℕ) → ((i == i) && true) ≡ true
    one i = grind arith
