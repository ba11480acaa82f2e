-- A turn of a tiled operation: what it does to the partial result.
use Rattle.std.proofs.Common.{◌≡◌, ℕ, ◌<◌, List, Bool, true, false, refl, sym, ap, ◌∙◌}
use Rattle.std.specs.Prelude.{length, ◌&&◌, ◌||◌, if◌then◌else◌}
use Rattle.std.proofs.lemmas.Bool.{and_parts}
use Rattle.xf_points.specs.Points.{Point, Each, Below, same_point, points, at}
use Rattle.xf_points.specs.Folds.{Points, Step, both, either, everywhere, folded, onto, partial, result, OrderIsFree}
use Rattle.xf_points.specs.Windows.{Window, no_window, sizes, Within, inside, placed, taken_from, windows_at, cut}
use Rattle.xf_points.specs.Windows.{turned}
use Rattle.xf_points.proofs.Lists.{points_within}
use Rattle.xf_points.proofs.Sets.{same_functions, points_below, folded_same, folded_fits, folded_either}
use Rattle.xf_points.proofs.Maps.{below_length, sizes_length, length-picked, at_placed, at_inside, same_point-true}
use Rattle.xf_points.proofs.Maps.{same_placed, placed_back}

-- ---- partial results

pub partial_fits : {A : Type 0} (Fit : A → Type 0) (es out : List ℕ) (step : Step A) (s : Points) (x : Point → A)
    (j : Point) → OrderIsFree Fit es out step → Fit (x j) → Fit (partial es out step s x j)
partial_fits Fit es out step s x j free h =
    folded_fits (λ p. Below p es) Fit (both s (onto out j)) step (points es) (x j) (points_below es) free.fits h

-- a set, and then another that has no point in common with it
pub partial_either : {A : Type 0} (Fit : A → Type 0) (es out : List ℕ) (step : Step A) (s t : Points) (x : Point → A)
    (j : Point)
    → OrderIsFree Fit es out step → ((p : Point) → s p ≡ true → t p ≡ false) → Fit (x j)
    → folded (both t (onto out j)) step (points es) (partial es out step s x j) ≡ partial es out step (either s t) x j
partial_either Fit es out step s t x j free apart h =
    sym (folded_either (λ p. Below p es) Fit (both s (onto out j)) (both t (onto out j)) step free.fits
    (λ p q a b c u v k.
    let u' = and_parts (t p) (onto out j p) u in
    let v' = and_parts (s q) (onto out j q) v in
    let one : p ≡ q → ⊥ = (λ e. let m = apart q v'.0 in let n = ap t e in cc) in
    let same : at out p ≡ at out q = same_point-true (at out p) j u'.1 ∙ sym (same_point-true (at out q) j v'.1) in
    free.swaps p q a b c one same k)
    (points es) (x j)
    (λ p u. let u' = and_parts (s p) (onto out j p) u in ap (λ b. b && onto out j p) (apart p u'.0))
    (points_below es) h)
    ∙ folded_same (λ p. Below p es) _ (both (either s t) (onto out j)) step step (points es) (x j) (points_below es)
    (λ p b. or_and (s p) (t p) (onto out j p)) (λ p a b e. refl)
  where
    or_and : (a b c : Bool) → ((a && c) || (b && c)) ≡ ((a || b) && c)
    or_and true true true = refl
    or_and true true false = refl
    or_and true false true = refl
    or_and true false false = refl
    or_and false b c = refl

-- a set that brings nothing to an index
pub partial_apart : {A : Type 0} (es out : List ℕ) (step : Step A) (s t : Points) (x : Point → A) (j : Point)
    → ((p : Point) → Below p es → t p ≡ true → onto out j p ≡ true → ⊥) → partial es out step s x j
    ≡ partial es out step (either s t) x j
partial_apart es out step s t x j h =
    folded_same (λ p. Below p es) (both s (onto out j)) (both (either s t) (onto out j)) step step (points es) (x j)
    (points_below es)
    (λ p b. none (s p) (t p) (onto out j p) (h p b)) (λ p a b e. refl)
  where
    none : (a b c : Bool) → (b ≡ true → c ≡ true → ⊥) → (a && c) ≡ ((a || b) && c)
    none true b c k = refl
    none false true true k = absurd (k refl refl)
    none false true false k = refl
    none false false c k = refl

-- ---- a turn

-- the fold over the points of the windows is that over these points of the whole
pub result_in : {A : Type 0} (es out : List ℕ) (step : Step A) (ws : List Window) (j j' : Point) (x : A)
    → Within ws es → ((p : Point) → Below p (sizes ws) → onto out j' p ≡ onto out j (placed ws p))
    → folded (both everywhere (onto out j')) (λ p. step (placed ws p)) (points (sizes ws)) x
    ≡ folded (both (inside ws) (onto out j)) step (points es) x
result_in es out step ws j j' x h same =
    folded_same (λ p. Below p (sizes ws)) (both everywhere (onto out j')) (λ p. onto out j (placed ws p))
    (λ p. step (placed ws p)) (λ p. step (placed ws p)) (points (sizes ws)) x (points_below (sizes ws)) same
    (λ p a b e. refl)
    ∙ sym (points_within es ws (onto out j) step x h)

module _ {A : Type 0} (Fit : A → Type 0) (es out : List ℕ) (step : Step A) (ws : List Window) (s : Points)
    (x : Point → A)
    (h : Within ws es) (o : Each (λ d. d < length ws) out) (free : OrderIsFree Fit es out step)
    (fits : (j : Point) → Fit (x j)) (apart : (p : Point) → s p ≡ true → inside ws p ≡ false) where
  turn_at : (j : Point) (b : Bool) → inside (windows_at out ws) j ≡ b
      → (if b then result (sizes ws) out (λ p. step (placed ws p)) (cut (windows_at out ws) (partial es out step s x))
      (taken_from (windows_at out ws) j) else partial es out step s x j)
      ≡ partial es out step (either s (inside ws)) x j
  turn_at j true e =
      let v = windows_at out ws in
      ap (λ i. folded (both everywhere (onto out (taken_from v j))) (λ p. step (placed ws p)) (points (sizes ws))
      (partial es out step s x i)) (placed_back v j e)
      ∙ result_in es out step ws j (taken_from v j) (partial es out step s x j) h
      (λ p b.
      let l : length p ≡ length ws = below_length p (sizes ws) b ∙ sizes_length ws in
      let m : length (at out p) ≡ length v = length-picked 0 out p ∙ sym (length-picked no_window out ws) in
      sym (ap (λ q. same_point q j) (at_placed out ws p l) ∙ same_placed v (at out p) j m e))
      ∙ partial_either Fit es out step s (inside ws) x j free apart (fits j)
  turn_at j false e =
      partial_apart es out step s (inside ws) x j
      (λ p b u c.
      let i = at_inside out ws p o u in
      let k : at out p ≡ j = same_point-true (at out p) j c in
      let n = ap (inside (windows_at out ws)) k in cc)

  -- a turn adds the points of its windows to those that the partial result has taken
  pub turn_is : turned out step ws (partial es out step s x) ≡ partial es out step (either s (inside ws)) x
  turn_is = same_functions _ _ (λ j. turn_at j (inside (windows_at out ws) j) refl)
