-- The windows of a space that lead to given windows of the out.
use Rattle.std.proofs.Common.{◌≡◌, ◌⊎◌, ℕ, zero, suc, ◌+◌, ◌<◌, ◌≤◌, List, [], ◌∷◌, Bool, true, false, refl, sym, ap}
use Rattle.std.proofs.Common.{◌∙◌, subst, inl, inr, arith}
use Rattle.std.specs.Prelude.{map, length, get_or, ◌==◌, if◌then◌else◌}
use Rattle.std.proofs.lemmas.List.{get_or-map}
use Rattle.std.proofs.lemmas.Bool.{eqb-true, eq-eqb, ne_eqb}
use Rattle.xf_points.specs.Points.{Each, counted, at}
use Rattle.xf_points.specs.Operands.{Among, ReductionsWhole, window_for, windows_from, OnceEach}
use Rattle.xf_points.specs.Windows.{Window, no_window, Within, windows_at}

length_counted : (n k : ℕ) → length (counted k n) ≡ n
length_counted zero k = refl
length_counted (suc n) k = ap suc (length_counted n (k + 1))

pub get_counted_at : (n k d : ℕ) → d < n → get_or (counted k n) d 0 ≡ k + d
get_counted_at zero k d h = (let no : ⊥ = omega (arith, h) in absurd no)
get_counted_at (suc n) k zero h = omega arith
get_counted_at (suc n) k (suc d) h = get_counted_at n (k + 1) d (omega (arith, h)) ∙ omega arith

get_from : (out es : List ℕ) (vs : List Window) (d : ℕ) → d < length es → get_or (windows_from out vs es) d no_window
    ≡ window_for d (get_or es d 0) out vs
get_from out es vs d h =
    let f : ℕ → Window = (λ d. window_for d (get_or es d 0) out vs) in
    let l = length_counted (length es) 0 in
    get_or-map f (counted 0 (length es)) d 0 no_window (omega (arith, l, h))
    ∙ ap f (get_counted_at (length es) 0 d h ∙ omega arith)

first_window : (d e : ℕ) (ks : List ℕ) (v : Window) (vs : List Window) → window_for d e (d ∷ ks) (v ∷ vs) ≡ v
first_window d e ks v vs = rw (eq-eqb d d refl) refl

later_window : (d e k : ℕ) (ks : List ℕ) (v : Window) (vs : List Window) → (k ≡ d → ⊥)
    → window_for d e (k ∷ ks) (v ∷ vs) ≡ window_for d e ks vs
later_window d e k ks v vs h = rw (ne_eqb k d h) refl

-- each of these dimensions has its window
windows_are : (ks : List ℕ) (ws vs : List Window) (es : List ℕ) → OnceEach ks → length vs ≡ length ks
    → ((d : ℕ) → Among d ks → get_or ws d no_window ≡ window_for d (get_or es d 0) ks vs) → windows_at ks ws ≡ vs
windows_are [] ws [] es o l h = refl
windows_are [] ws (v ∷ vs) es o l h = cc
windows_are (k ∷ ks) ws [] es o l h = cc
windows_are (k ∷ ks) ws (v ∷ vs) es o l h =
    let a = h k (inl refl) ∙ first_window k (get_or es k 0) ks v vs in
    let b = windows_are ks ws vs es o.1 (cc)
    (λ d m. h d (inr m)
    ∙ later_window d (get_or es d 0) k ks v vs (λ e. o.0 (subst (λ i. Among i ks) (sym e) m))) in cc

each_among : (P : ℕ → Type 0) (ks : List ℕ) (d : ℕ) → Each P ks → Among d ks → P d
each_among P [] d h m = absurd m
each_among P (k ∷ ks) d h (inl e) = subst P (sym e) h.0
each_among P (k ∷ ks) d h (inr m) = each_among P ks d h.1 m

pub windows_from_at : (out es : List ℕ) (vs : List Window) → OnceEach out → Each (λ d. d < length es) out → length vs
    ≡ length out → windows_at out (windows_from out vs es) ≡ vs
windows_from_at out es vs o b l =
    windows_are out (windows_from out vs es) vs es o l
    (λ d m. get_from out es vs d (each_among (λ d. d < length es) out d b m))

-- a dimension of the out or none
among_or : (d : ℕ) (ks : List ℕ) (vs : List Window) (e : ℕ) → length vs ≡ length ks → Among d ks
    ⊎ (window_for d e ks vs ≡ record { offset = 0; size = e })
among_or d [] vs e l = inr refl
among_or d (k ∷ ks) [] e l = cc
among_or d (k ∷ ks) (v ∷ vs) e l = cases (k == d) refl (among_or d ks vs e (cc))
  where
    cases : (b : Bool) → (k == d) ≡ b → Among d ks ⊎ (window_for d e ks vs ≡ record { offset = 0; size = e })
        → ((d ≡ k) ⊎ Among d ks) ⊎ ((if b then v else window_for d e ks vs) ≡ record { offset = 0; size = e })
    cases true q r = inl (inl (sym (eqb-true k d q)))
    cases false q (inl m) = inl (inr m)
    cases false q (inr m) = inr m

pub from_whole : (out es : List ℕ) (vs : List Window) → length vs ≡ length out
    → ReductionsWhole out (windows_from out vs es) es
from_whole out es vs l d h = cases (among_or d out vs (get_or es d 0) l)
  where
    cases : Among d out ⊎ (window_for d (get_or es d 0) out vs ≡ record { offset = 0; size = get_or es d 0 })
        → Among d out ⊎ (get_or (windows_from out vs es) d no_window ≡ record { offset = 0; size = get_or es d 0 })
    cases (inl m) = inl m
    cases (inr m) = inr (get_from out es vs d h ∙ m)

-- windows within what the out's map selects lie within the space
one_within : (d : ℕ) (ks : List ℕ) (vs : List Window) (es : List ℕ) → Within vs (at ks es)
    → (window_for d (get_or es d 0) ks vs).offset + (window_for d (get_or es d 0) ks vs).size ≤ get_or es d 0
one_within d [] vs es h = omega arith
one_within d (k ∷ ks) [] es h = absurd h
one_within d (k ∷ ks) (v ∷ vs) es h = cases (k == d) refl (one_within d ks vs es h.1)
  where
    cases : (b : Bool) → (k == d) ≡ b
        → (window_for d (get_or es d 0) ks vs).offset + (window_for d (get_or es d 0) ks vs).size ≤ get_or es d 0
        → (if b then v else window_for d (get_or es d 0) ks vs).offset +
        (if b then v else window_for d (get_or es d 0) ks vs).size ≤ get_or es d 0
    cases true q r = (let e = eqb-true k d q in subst (λ i. v.offset + v.size ≤ get_or es i 0) e h.0)
    cases false q r = r

within_map : (f : ℕ → Window) (es all : List ℕ) (k : ℕ)
    → ((d : ℕ) → d < length es → get_or es d 0 ≡ get_or all (k + d) 0)
    → ((d : ℕ) → k ≤ d → d < k + length es → (f d).offset + (f d).size ≤ get_or all d 0)
    → Within (map f (counted k (length es))) es
within_map f [] all k g h = tt
within_map f (e ∷ es) all k g h =
    (let a = g 0 (omega arith) in
    let b = h k (omega arith) (omega arith) in
    let c : k + 0 ≡ k = omega arith in
    let d : e ≡ get_or all k 0 = a ∙ ap (λ i. get_or all i 0) c in (
      omega (arith, b, d),
      within_map f es all (k + 1)
          (λ i l. (let m : k + suc i ≡ k + 1 + i = omega arith in g (suc i) (omega (arith, l))
          ∙ ap (λ n. get_or all n 0) m)) (λ d l m. h d (omega (arith, l)) (omega (arith, m))),
    ))

pub from_within : (out es : List ℕ) (vs : List Window) → Within vs (at out es) → Within (windows_from out vs es) es
from_within out es vs h =
    within_map (λ d. window_for d (get_or es d 0) out vs) es es 0
    (λ d l. (let z : 0 + d ≡ d = omega arith in sym (ap (λ i. get_or es i 0) z)))
    (λ d l m. one_within d out vs es h)
