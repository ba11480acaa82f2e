-- Without reductions each index of the out has a point that leads to it.
use Rattle.std.proofs.Common.{◌≡◌, ℕ, zero, suc, ◌<◌, List, [], ◌∷◌, refl, sym, ap, ◌∙◌, subst, inl, inr, arith}
use Rattle.std.specs.Prelude.{map, length, get_or}
use Rattle.xf_points.specs.Points.{Point, Each, Below, at}
use Rattle.xf_points.specs.Windows.{Window, no_window, sizes, placed, windows_at}
use Rattle.xf_points.specs.Operands.{Among, AllParallel, OnceEach, windows_from}
use Rattle.xf_points.proofs.Maps.{within_length, length-picked, at_placed, placed_below}
use Rattle.xf_points.proofs.Orders.{unit, units, zeros, unit_within, unit_placed}
use Rattle.xf_points.proofs.Fusing.{windows_from_at, from_within}

nothing : List Window → Point
nothing ws = map (λ w. 0) ws

nothing_length : (ws : List Window) → length (nothing ws) ≡ length ws
unfolding nothing
nothing_length [] = refl
nothing_length (w ∷ ws) = ap suc (nothing_length ws)

get_nothing : (ws : List Window) (d : ℕ) → get_or (nothing ws) d 0 ≡ 0
unfolding nothing
get_nothing [] d = refl
get_nothing (w ∷ ws) zero = refl
get_nothing (w ∷ ws) (suc d) = get_nothing ws d

at_nothing : (ds : List ℕ) (ws : List Window) (j : Point) → length ds ≡ length j → at ds (nothing ws) ≡ zeros j
unfolding zeros
at_nothing [] ws [] l = refl
at_nothing [] ws (i ∷ j) l = cc
at_nothing (d ∷ ds) ws [] l = cc
at_nothing (d ∷ ds) ws (i ∷ j) l = let a = get_nothing ws d in let b = at_nothing ds ws j (cc) in cc

unit_size : (ds : List ℕ) (ws : List Window) (j : Point) (d : ℕ) → windows_at ds ws ≡ units j → Among d ds
    → (get_or ws d no_window).size ≡ 1
unfolding units unit
unit_size [] ws j d h m = absurd m
unit_size (k ∷ ds) ws [] d h m = cc
unit_size (k ∷ ds) ws (i ∷ j) d h (inl e) =
    (let a : get_or ws k no_window ≡ record { offset = i; size = 1 } = cc in ap (λ q. (get_or ws q no_window).size) e
    ∙ ap (λ (w : Window). w.size) a)
unit_size (k ∷ ds) ws (i ∷ j) d h (inr m) = unit_size ds ws j d (cc) m

nothing_below : (ws : List Window) → ((d : ℕ) → d < length ws → (get_or ws d no_window).size ≡ 1)
    → Below (nothing ws) (sizes ws)
unfolding nothing
nothing_below [] h = tt
nothing_below (w ∷ ws) h =
    ((let a = h 0 (omega arith) in omega (arith, a)), nothing_below ws (λ d l. h (suc d) (omega (arith, l))))

length_units : (j : Point) → length (units j) ≡ length j
unfolding units
length_units [] = refl
length_units (i ∷ j) = ap suc (length_units j)

pub point_of_index : (out es : List ℕ) (j : Point) → OnceEach out → Each (λ d. d < length es) out
    → AllParallel (length es) out → Below j (at out es) → (p : Point) × (Below p es × (at out p ≡ j))
point_of_index out es j once below all b =
    let vs = units j in
    let ws = windows_from out vs es in
    let v = unit_within j (at out es) b in
    let l : length vs ≡ length out = within_length vs (at out es) v ∙ length-picked 0 out es in
    let lead = windows_from_at out es vs once below l in
    let w = from_within out es vs v in
    let k = within_length ws es w in
    let z = nothing ws in
    let lz : length z ≡ length ws = nothing_length ws in
    let lj : length out ≡ length j = sym l ∙ length_units j in (
      placed ws z,
      (
        placed_below ws es z w
            (nothing_below ws
            (λ d m. unit_size out ws j d lead (all d (subst (λ n. d < n) k m)))),
        at_placed out ws z lz
            ∙ ap (λ us. placed us (at out z)) lead ∙ ap (placed vs) (at_nothing out ws j lj) ∙ unit_placed j,
      ),
    )
