-- Extents, and boxes of points, one step more.
use Rattle.std.proofs.Common.{◌≡◌, ◌≢◌, ℕ, zero, suc, ◌+◌, ◌-◌, ◌<◌, ◌≤◌, List, [], ◌∷◌, ◌++◌, Bool, true, false, length}
use Rattle.std.proofs.Common.{get_or, drop, Option, Some, None, refl, sym, ap, ◌∙◌, arith, subst, append_assoc}
use Rattle.std.proofs.lemmas.List.{drop_more, drop_all}
use Rattle.std.proofs.lemmas.Bool.{ne_eqb, eq-eqb, and_right}
use Rattle.std.specs.Prelude.{map, ◌==◌, if◌then◌else◌}
use Rattle.xf_points.specs.Points.{Point, counted, at, same_point}
use Rattle.xf_points.proofs.Maps.{length-picked}
use Rattle.xf_sem.specs.declared.value.Value.{Value}
use Rattle.xf_sem.specs.Structured.{extent_in, extent_of, or_else, agree}
use Rattle.xf_eval_points.specs.declared.span.Span.{Span}
use Rattle.xf_eval_points.specs.Frames.{shapes}
use Rattle.xf_eval_points.specs.Onto.{narrowed, span_from}

-- ---- extents

in_none : (d : ℕ) (ks : List ℕ) → extent_in d ks [] ≡ None
in_none d [] = refl
in_none d (k ∷ ks) = refl

pub extent_in_past : (d : ℕ) (ks es : List ℕ) (n : ℕ) → length es ≤ n → extent_in d (drop n ks) (drop n es) ≡ None
extent_in_past d ks es n h = ap (extent_in d (drop n ks)) (drop_all n es h) ∙ in_none d (drop n ks)

pub extent_in_step : (d : ℕ) (ks es : List ℕ) (n : ℕ) → n < length ks → n < length es → get_or ks n 0 ≢ d
    → extent_in d (drop (n + 1) ks) (drop (n + 1) es) ≡ extent_in d (drop n ks) (drop n es)
extent_in_step d ks es n h k ne =
    let e = get_or es n 0 in
    let more = extent_in d (drop (n + 1) ks) (drop (n + 1) es) in
    sym (ap (λ us. extent_in d us (drop n es)) (drop_more ks n 0 h)
    ∙ ap (extent_in d (get_or ks n 0 ∷ drop (n + 1) ks)) (drop_more es n 0 k)
    ∙ ap (λ b. if b then Some e else more) (ne_eqb (get_or ks n 0) d ne))

of_none : (d : ℕ) (maps : List (List ℕ)) → extent_of d maps [] ≡ 0
of_none d [] = refl
of_none d (ks ∷ maps) = refl

pub extent_of_past : (d : ℕ) (maps : List (List ℕ)) (vs : List Value) (n : ℕ) → length vs ≤ n
    → extent_of d (drop n maps) (shapes (drop n vs)) ≡ 0
extent_of_past d maps vs n h =
    ap (λ us. extent_of d (drop n maps) (shapes us)) (drop_all n vs h) ∙ of_none d (drop n maps)

pub unequal_points : (p q : Point) → length p ≢ length q → false ≡ same_point p q
unequal_points [] [] h = absurd (h refl)
unequal_points [] (j ∷ q) h = refl
unequal_points (i ∷ p) [] h = refl
unequal_points (i ∷ p) (j ∷ q) h =
    sym (and_right (i == j) (same_point p q) (sym (unequal_points p q (λ e. h (ap suc e)))))

pub unequal_sizes : (ks es sizes : List ℕ) → length sizes ≢ length ks → false ≡ same_point sizes (at ks es)
unequal_sizes ks es sizes h = unequal_points sizes (at ks es) (λ e. h (e ∙ length-picked 0 ks es))

pub unequal_maps : (es : List ℕ) (maps : List (List ℕ)) (vs : List Value) → length maps ≢ length vs
    → false ≡ agree es maps (shapes vs)
unequal_maps es [] [] h = absurd (h refl)
unequal_maps es [] (v ∷ vs) h = refl
unequal_maps es (ks ∷ maps) [] h = refl
unequal_maps es (ks ∷ maps) (v ∷ vs) h =
    sym (and_right _ (agree es maps (shapes vs)) (sym (unequal_maps es maps vs (λ e. h (ap suc e)))))

-- ---- a list made one item after another

one_more : (d n : ℕ) → d < n → n - d ≡ suc (n - (d + 1))
one_more d n h = omega arith

pub listed_more : {A : Type 0} (f : ℕ → A) (xs ys all : List A) (x : A) (d n : ℕ) → d < n → ys ≡ xs ++ x ∷ []
    → x ≡ f d → xs ++ map f (counted d (n - d)) ≡ all → ys ++ map f (counted (d + 1) (n - (d + 1))) ≡ all
listed_more f xs ys all x d n h p q e =
    ap (λ us. us ++ map f (counted (d + 1) (n - (d + 1)))) p
    ∙ append_assoc xs (x ∷ []) (map f (counted (d + 1) (n - (d + 1))))
    ∙ ap (λ y. xs ++ y ∷ map f (counted (d + 1) (n - (d + 1)))) q
    ∙ ap (λ k. xs ++ map f (counted d k)) (sym (one_more d n h)) ∙ e

-- ---- boxes

from_none : (d : ℕ) (s : Span) (ks : List ℕ) → span_from d s ks [] ≡ s
from_none d s [] = refl
from_none d s (k ∷ ks) = refl

pub span_past : (d : ℕ) (s : Span) (ks js : List ℕ) (n : ℕ) → length js ≤ n
    → span_from d s (drop n ks) (drop n js) ≡ s
span_past d s ks js n h = ap (span_from d s (drop n ks)) (drop_all n js h) ∙ from_none d s (drop n ks)

pub span_step : (d : ℕ) (s t : Span) (ks js : List ℕ) (n : ℕ) (b : Bool) → n < length ks → n < length js
    → (get_or ks n 0 == d) ≡ b → t ≡ (if b then narrowed (get_or js n 0) s else s)
    → span_from d t (drop (n + 1) ks) (drop (n + 1) js) ≡ span_from d s (drop n ks) (drop n js)
span_step d s t ks js n b h k e q =
    ap (λ u. span_from d u (drop (n + 1) ks) (drop (n + 1) js)) q
    ∙ sym (ap (λ us. span_from d s us (drop n js)) (drop_more ks n 0 h)
    ∙ ap (span_from d s (get_or ks n 0 ∷ drop (n + 1) ks)) (drop_more js n 0 k)
    ∙ ap (λ b. span_from d (if b then narrowed (get_or js n 0) s else s) (drop (n + 1) ks) (drop (n + 1) js)) e)
