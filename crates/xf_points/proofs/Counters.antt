-- The points that lead to an index, one after another: those of the windows that hold the index alone, reductions
-- whole.
use Rattle.std.proofs.Common.{◌≡◌, ◌⊎◌, ℕ, ◌<◌, List, [], ◌∷◌, ◌++◌, Bool, true, false, refl, sym, ap, ◌∙◌, subst, inl}
use Rattle.std.proofs.Common.{inr}
use Rattle.std.specs.Prelude.{map, filter, cond, length, get_or, ◌&&◌, if◌then◌else◌}
use Rattle.std.proofs.lemmas.List.{append-nil, append_assoc}
use Rattle.xf_points.specs.Points.{Point, Each, Below, same_point, points, at}
use Rattle.xf_points.specs.Folds.{Points, Step, both, everywhere, folded, onto}
use Rattle.xf_points.specs.Windows.{Window, no_window, sizes, Within, has, inside, placed, windows_at}
use Rattle.xf_points.specs.Operands.{Among, OnceEach, windows_from}
use Rattle.xf_points.proofs.Lists.{points_within}
use Rattle.xf_points.proofs.Sets.{points_below}
use Rattle.xf_points.proofs.Maps.{below_length, within_length, length-picked, at_inside, same_point-true}
use Rattle.xf_points.proofs.Maps.{same_point-self}
use Rattle.xf_points.proofs.Results.{inside_each, get_among, has_whole, get_below}
use Rattle.xf_points.proofs.Orders.{units, unit_inside, unit_within}
use Rattle.xf_points.proofs.Fusing.{windows_from_at, from_within, from_whole}

-- the points of a list that belong to the set, put at the end
collect : Step (List Point)
collect p xs = xs ++ p ∷ []

append_cases : (b : Bool) (p : Point) (xs ys : List Point) → (if b then xs ++ p ∷ [] else xs) ++ ys
    ≡ xs ++ cond b (p ∷ ys) ys
append_cases true p xs ys = append_assoc xs (p ∷ []) ys
append_cases false p xs ys = refl

collected : (s : Points) (ps xs : List Point) → folded s collect ps xs ≡ xs ++ filter s ps
unfolding collect
collected s [] xs = sym (append-nil xs)
collected s (p ∷ ps) xs = collected s ps (if s p then xs ++ p ∷ [] else xs) ∙ append_cases (s p) p xs (filter s ps)

collected_placed : (ws : List Window) (ps xs : List Point) → folded everywhere (λ p. collect (placed ws p)) ps xs
    ≡ xs ++ map (placed ws) ps
unfolding collect
collected_placed ws [] xs = sym (append-nil xs)
collected_placed ws (p ∷ ps) xs =
    collected_placed ws ps (xs ++ placed ws p ∷ []) ∙ append_assoc xs (placed ws p ∷ []) (map (placed ws) ps)

-- the points of windows, in order
pub points_of_windows : (es : List ℕ) (ws : List Window) → Within ws es
    → filter (both (inside ws) everywhere) (points es) ≡ map (placed ws) (points (sizes ws))
points_of_windows es ws h =
    sym (collected (both (inside ws) everywhere) (points es) []) ∙ points_within es ws everywhere collect [] h
    ∙ collected_placed ws (points (sizes ws)) []

filter_same : (P : Point → Type 0) (s t : Points) (ps : List Point) → Each P ps → ((p : Point) → P p → s p ≡ t p)
    → filter s ps ≡ filter t ps
filter_same P s t [] q h = refl
filter_same P s t (p ∷ ps) q h = let a = h p q.0 in let b = filter_same P s t ps q.1 h in cc

-- the points that lead to an index, in order
pub points_onto : (out es : List ℕ) (j : Point) → OnceEach out → Each (λ d. d < length es) out → Below j (at out es)
    → filter (onto out j) (points es)
    ≡ map (placed (windows_from out (units j) es)) (points (sizes (windows_from out (units j) es)))
points_onto out es j once below b =
    let vs = units j in
    let ws = windows_from out vs es in
    let within_out = unit_within j (at out es) b in
    let l : length vs ≡ length out = within_length vs (at out es) within_out ∙ length-picked 0 out es in
    let lead = windows_from_at out es vs once below l in
    let w = from_within out es vs within_out in
    let whole = from_whole out es vs l in
    let k = within_length ws es w in
    filter_same (λ p. Below p es) (onto out j) (both (inside ws) everywhere) (points es) (points_below es)
    (λ p c. tests (onto out j p) (inside ws p)
    (λ e.
    let m : at out p ≡ j = same_point-true (at out p) j e in
    let n : inside (windows_at out ws) (at out p) ≡ true = ap (λ us. inside us (at out p)) lead
    ∙ unit_inside j (at out p) ∙ ap (λ q. same_point q j) m ∙ same_point-self j in
    inside_each ws p (below_length p es c ∙ sym k)
    (λ d f. dimension ws d p c n (subst (λ u. d < u) k f) (whole d (subst (λ u. d < u) k f))))
    (λ e.
    let n = at_inside out ws p (subst (λ u. Each (λ d. d < u) out) (sym k) below) e in
    sym (ap (λ us. inside us (at out p)) lead ∙ unit_inside j (at out p)) ∙ n))
    ∙ points_of_windows es ws w
  where
    tests : (a b : Bool) → (a ≡ true → b ≡ true) → (b ≡ true → a ≡ true) → a ≡ (b && true)
    tests true b f g = rw (f refl) refl
    tests false true f g = (let m = g refl in cc)
    tests false false f g = refl

    dimension : (ws : List Window) (d : ℕ) (p : Point) → Below p es → inside (windows_at out ws) (at out p) ≡ true
        → d < length es → Among d out ⊎ (get_or ws d no_window ≡ record { offset = 0; size = get_or es d 0 })
        → has (get_or ws d no_window) (get_or p d 0) ≡ true
    dimension ws d p c n f (inl m) = get_among d out ws p n m
    dimension ws d p c n f (inr m) = rw m (has_whole (get_or es d 0) (get_or p d 0) (get_below d p es c f))
