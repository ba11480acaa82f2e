-- What a turn keeps: elements of the width, and that equal tensors stay equal.
use Rattle.std.proofs.Common.{◌≡◌, ℕ, List, Bool, true, false, refl, sym, ap, ◌∙◌}
use Rattle.std.specs.Prelude.{if◌then◌else◌}
use Rattle.xf_points.specs.Points.{Point, Below, points}
use Rattle.xf_points.specs.Folds.{Step, both, everywhere, folded, onto, result}
use Rattle.xf_points.specs.Windows.{Window, sizes, Within, inside, placed, taken_from, windows_at, cut, turned}
use Rattle.xf_points.proofs.Sets.{points_below, folded_fits}
use Rattle.xf_points.proofs.Maps.{placed_back, placed_below}

turned_fits_at : {A : Type 0} (Fit : A → Type 0) (es out : List ℕ) (step : Step A) (ws : List Window) (y : Point → A)
    → Within ws es → ((p : Point) (a : A) → Below p es → Fit a → Fit (step p a)) → ((j : Point) → Fit (y j))
    → (j : Point) (b : Bool)
    → Fit (if b
    then result (sizes ws) out (λ p. step (placed ws p)) (cut (windows_at out ws) y)
    (taken_from (windows_at out ws) j) else y j)
turned_fits_at Fit es out step ws y w f h j true =
    folded_fits (λ p. Below p (sizes ws)) Fit (both everywhere (onto out (taken_from (windows_at out ws) j)))
    (λ p. step (placed ws p)) (points (sizes ws)) _ (points_below (sizes ws))
    (λ p a b k. f (placed ws p) a (placed_below ws es p w b) k) (h _)
turned_fits_at Fit es out step ws y w f h j false = h j

pub turned_fits : {A : Type 0} (Fit : A → Type 0) (es out : List ℕ) (step : Step A) (ws : List Window) (y : Point → A)
    → Within ws es → ((p : Point) (a : A) → Below p es → Fit a → Fit (step p a)) → ((j : Point) → Fit (y j))
    → (j : Point) → Fit (turned out step ws y j)
turned_fits Fit es out step ws y w f h j = turned_fits_at Fit es out step ws y w f h j (inside (windows_at out ws) j)

turned_same_at : {A : Type 0} (out : List ℕ) (step : Step A) (ws : List Window) (y z : Point → A) (j : Point) → y j
    ≡ z j → (b : Bool) → inside (windows_at out ws) j ≡ b
    → (if b then result (sizes ws) out (λ p. step (placed ws p)) (cut (windows_at out ws) y)
    (taken_from (windows_at out ws) j) else y j)
    ≡ (if b then result (sizes ws) out (λ p. step (placed ws p)) (cut (windows_at out ws) z)
    (taken_from (windows_at out ws) j) else z j)
turned_same_at out step ws y z j h true e =
    let v = windows_at out ws in
    let a : y (placed v (taken_from v j)) ≡ z (placed v (taken_from v j)) = ap y (placed_back v j e) ∙ h
    ∙ sym (ap z (placed_back v j e)) in
    ap (λ x. folded (both everywhere (onto out (taken_from v j))) (λ p. step (placed ws p)) (points (sizes ws)) x) a
turned_same_at out step ws y z j h false e = h

pub turned_same : {A : Type 0} (out : List ℕ) (step : Step A) (ws : List Window) (y z : Point → A) (j : Point) → y j
    ≡ z j → turned out step ws y j ≡ turned out step ws z j
turned_same out step ws y z j h = turned_same_at out step ws y z j h (inside (windows_at out ws) j) refl
