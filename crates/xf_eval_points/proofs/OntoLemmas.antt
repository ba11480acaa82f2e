-- The box that is made of an index holds just the points that lead to it.
use Rattle.std.proofs.Common.{◌≡◌, ◌≢◌, ◌⊎◌, inl, inr, ℕ, zero, suc, ◌+◌, ◌-◌, ◌<◌, ◌≤◌, List, [], ◌∷◌, ◌++◌, Bool, true, false}
use Rattle.std.proofs.Common.{length, get_or, refl, sym, ap, ◌∙◌, arith, subst}
use Rattle.std.proofs.lemmas.List.{map-append, length-map, get_or-map, get_or_past, ext_get_or}
use Rattle.std.proofs.lemmas.Bool.{and_parts, and_from, ltb-true, leb-true, lt-ltb, le-leb, eqb-true, eqb-false, eq-eqb}
use Rattle.std.specs.Prelude.{map, flat_map, filter, max, min, ◌&&◌, ◌==◌, if◌then◌else◌, nat_le, nat_lt, cond}
use Rattle.xf_points.specs.Points.{Point, Each, Below, points, counted, at, same_point}
use Rattle.xf_points.specs.Folds.{Points, both, everywhere, onto}
use Rattle.xf_points.specs.Windows.{Window, no_window, sizes, Within, has, inside, placed}
use Rattle.xf_points.proofs.Lists.{counted_from}
use Rattle.xf_points.proofs.Sets.{points_below}
use Rattle.xf_points.proofs.Tensors.{length_counted}
use Rattle.xf_points.proofs.Maps.{below_length, length-picked, same_point-true, same_point-self}
use Rattle.xf_points.proofs.Results.{inside_each, get_below}
use Rattle.xf_points.proofs.Fusing.{get_counted_at}
use Rattle.xf_points.proofs.Counters.{points_of_windows}
use Rattle.xf_eval_points.specs.declared.span.Span.{Span}
use Rattle.xf_eval_points.specs.Spans.{window_of, spread}
use Rattle.xf_eval_points.specs.Onto.{narrowed, span_from, span_onto, spans_onto, whole_spans}

-- ---- boxes as windows

map_map : {A B C : Type 0} (f : A → B) (g : B → C) (xs : List A) → map g (map f xs) ≡ map (λ x. g (f x)) xs
map_map f g [] = refl
map_map f g (x ∷ xs) = ap (λ ys. g (f x) ∷ ys) (map_map f g xs)

rows_placed : (w : Window) (ws : List Window) (qs ps : List Point) (is : List ℕ) → qs ≡ map (placed ws) ps
    → flat_map (λ i. map (λ p. i ∷ p) qs) (map (λ i. w.offset + i) is)
    ≡ map (placed (w ∷ ws)) (flat_map (λ i. map (λ p. i ∷ p) ps) is)
rows_placed w ws qs ps [] e = refl
rows_placed w ws qs ps (i ∷ is) e =
    ap (λ rs. map (λ p. (w.offset + i) ∷ p) rs ++ flat_map (λ i. map (λ p. i ∷ p) qs) (map (λ i. w.offset + i) is)) e
    ∙ ap (λ rs. rs ++ flat_map (λ i. map (λ p. i ∷ p) qs) (map (λ i. w.offset + i) is))
    (map_map (placed ws) (λ p. (w.offset + i) ∷ p) ps ∙ sym (map_map (λ p. i ∷ p) (placed (w ∷ ws)) ps))
    ∙ ap (λ rs. map (placed (w ∷ ws)) (map (λ p. i ∷ p) ps) ++ rs) (rows_placed w ws qs ps is e)
    ∙ sym (map-append (placed (w ∷ ws)) (map (λ p. i ∷ p) ps) (flat_map (λ i. map (λ p. i ∷ p) ps) is))

plus_none : (n : ℕ) → n ≡ n + 0
plus_none n = omega arith

pub spread_is : (ss : List Span) → spread ss ≡ map (placed (map window_of ss)) (points (sizes (map window_of ss)))
spread_is [] = refl
spread_is (s ∷ ss) =
    let ws = map window_of ss in
    ap (λ k. flat_map (λ i. map (λ p. i ∷ p) (spread ss)) (counted k (s.to - s.from))) (plus_none s.from)
    ∙ ap (flat_map (λ i. map (λ p. i ∷ p) (spread ss))) (counted_from s.from 0 (s.to - s.from))
    ∙ rows_placed (window_of s) ws (spread ss) (points (sizes ws)) (counted 0 (s.to - s.from)) (spread_is ss)

less_none : (n : ℕ) → n - 0 ≡ n
less_none n = omega arith

-- the whole box
pub whole_spread : (es : List ℕ) → spread (whole_spans es) ≡ points es
whole_spread [] = refl
whole_spread (e ∷ es) =
    ap (λ n. flat_map (λ i. map (λ p. i ∷ p) (spread (whole_spans es))) (counted 0 n)) (less_none e)
    ∙ ap (λ ps. flat_map (λ i. map (λ p. i ∷ p) ps) (counted 0 e)) (whole_spread es)

-- ---- the numbers of one dimension

abbrev pub In : Span → ℕ → Type 0
In s x = (s.from ≤ x) × (x < s.to)

in_either : (d k j x : ℕ) (s : Span) (b : Bool) → (k == d) ≡ b → In s x → (k ≡ d → j ≡ x)
    → In (if b then narrowed j s else s) x
in_either d k j x s true e h a =
    let q : j ≡ x = a (eqb-true k d e) in (omega (arith, h.0, q), omega (arith, h.1, q))
in_either d k j x s false e h a = h

pub span_holds : (d x : ℕ) (s : Span) (ks js : List ℕ) → In s x
    → ((n : ℕ) → n < length ks → n < length js → get_or ks n 0 ≡ d → get_or js n 0 ≡ x) → In (span_from d s ks js) x
span_holds d x s [] js h a = h
span_holds d x s (k ∷ ks) [] h a = h
span_holds d x s (k ∷ ks) (j ∷ js) h a =
    span_holds d x (if k == d then narrowed j s else s) ks js
    (in_either d k j x s (k == d) refl h (a 0 (omega arith) (omega arith)))
    (λ n p q e. a (suc n) (omega arith) (omega arith) e)

in_outer : (d k j x : ℕ) (s : Span) (b : Bool) → In (if b then narrowed j s else s) x → In s x
in_outer d k j x s true h = (omega (arith, h.0), omega (arith, h.1))
in_outer d k j x s false h = h

span_outer : (d x : ℕ) (s : Span) (ks js : List ℕ) → In (span_from d s ks js) x → In s x
span_outer d x s [] js h = h
span_outer d x s (k ∷ ks) [] h = h
span_outer d x s (k ∷ ks) (j ∷ js) h =
    in_outer d k j x s (k == d) (span_outer d x (if k == d then narrowed j s else s) ks js h)

pinned : (d k j x : ℕ) (s : Span) (b : Bool) → (k == d) ≡ b → k ≡ d → In (if b then narrowed j s else s) x → x ≡ j
pinned d k j x s true e q h = omega (arith, h.0, h.1)
pinned d k j x s false e q h = absurd (eqb-false k d e q)

pub span_pins : (d x : ℕ) (s : Span) (ks js : List ℕ) (n : ℕ) → In (span_from d s ks js) x → n < length ks
    → n < length js → get_or ks n 0 ≡ d → x ≡ get_or js n 0
span_pins d x s [] js n h p q e = absurd (omega arith)
span_pins d x s (k ∷ ks) [] n h p q e = absurd (omega arith)
span_pins d x s (k ∷ ks) (j ∷ js) zero h p q e =
    pinned d k j x s (k == d) refl e (span_outer d x (if k == d then narrowed j s else s) ks js h)
span_pins d x s (k ∷ ks) (j ∷ js) (suc n) h p q e =
    span_pins d x (if k == d then narrowed j s else s) ks js n h (omega arith) (omega arith) e

-- a span stays within the extent, where each number of the index that it is narrowed by is below it
abbrev pub Bounded : ℕ → Span → Type 0
Bounded e s = (s.from ≤ e) × (s.to ≤ e)

narrow_bounded : (e d k j : ℕ) (s : Span) (b : Bool) → (k == d) ≡ b → Bounded e s → (k ≡ d → j < e)
    → Bounded e (if b then narrowed j s else s)
narrow_bounded e d k j s true q h a =
    let l : j < e = a (eqb-true k d q) in (omega (arith, h.0, l), omega (arith, h.1))
narrow_bounded e d k j s false q h a = h

pub span_bounded : (e d : ℕ) (s : Span) (ks js : List ℕ) → Bounded e s
    → ((n : ℕ) → n < length ks → n < length js → get_or ks n 0 ≡ d → get_or js n 0 < e)
    → Bounded e (span_from d s ks js)
span_bounded e d s [] js h a = h
span_bounded e d s (k ∷ ks) [] h a = h
span_bounded e d s (k ∷ ks) (j ∷ js) h a =
    span_bounded e d (if k == d then narrowed j s else s) ks js
    (narrow_bounded e d k j s (k == d) refl h (a 0 (omega arith) (omega arith)))
    (λ n p q r. a (suc n) (omega arith) (omega arith) r)

-- ---- all dimensions

no_span : Span
no_span = record { from = 0; to = 0 }

length_onto : (out : List ℕ) (j : Point) (es : List ℕ) → length (map window_of (spans_onto out j es)) ≡ length es
length_onto out j es =
    length-map (spans_onto out j es) window_of
    ∙ length-map (counted 0 (length es)) (λ d. span_onto d (get_or es d 0) out j) ∙ length_counted (length es) 0

get_onto : (out : List ℕ) (j : Point) (es : List ℕ) (d : ℕ) → d < length es
    → get_or (map window_of (spans_onto out j es)) d no_window ≡ window_of (span_onto d (get_or es d 0) out j)
get_onto out j es d h =
    let f = (λ (d : ℕ). span_onto d (get_or es d 0) out j) in
    let l : d < length (counted 0 (length es)) = subst (λ n. d < n) (sym (length_counted (length es) 0)) h in
    let k : d < length (spans_onto out j es) = subst (λ n. d < n) (sym (length-map (counted 0 (length es)) f)) l in
    get_or-map window_of (spans_onto out j es) d no_span no_window k
    ∙ ap window_of (get_or-map f (counted 0 (length es)) d 0 no_span l
    ∙ ap f (get_counted_at (length es) 0 d h ∙ (let z : 0 + d ≡ d = omega arith in z)))

within_counted : (g : ℕ → Window) (rest : List ℕ) (k : ℕ)
    → ((i : ℕ) → i < length rest → (g (k + i)).offset + (g (k + i)).size ≤ get_or rest i 0)
    → Within (map g (counted k (length rest))) rest
within_counted g [] k h = tt
within_counted g (e ∷ rest) k h = (
  subst (λ i. (g i).offset + (g i).size ≤ e) (sym (plus_none k)) (h 0 (omega arith)),
  within_counted g rest (k + 1)
      (λ i l. subst (λ n. (g n).offset + (g n).size ≤ get_or rest i 0) (one_on k i) (h (suc i) (omega arith))),
)
  where
    one_on : (k i : ℕ) → k + suc i ≡ (k + 1) + i
    one_on k i = omega arith

-- an index below the sizes that the out's map selects is below the extent of each dimension that the map has
index_below : (out : List ℕ) (j : Point) (es : List ℕ) (n d : ℕ) → Below j (at out es) → n < length out
    → get_or out n 0 ≡ d → get_or j n 0 < get_or es d 0
index_below out j es n d b h e =
    let l : n < length (at out es) = subst (λ m. n < m) (sym (length-picked 0 out es)) h in
    subst (λ m. get_or j n 0 < m) (get_or-map (λ d. get_or es d 0) out n 0 0 h ∙ ap (λ d. get_or es d 0) e)
    (get_below n j (at out es) b l)

window_fits : (e : ℕ) (s : Span) → Bounded e s → s.from + (s.to - s.from) ≤ e
window_fits e s h = omega (arith, h.0, h.1)

within_onto : (out : List ℕ) (j : Point) (es : List ℕ) → Below j (at out es)
    → Within (map window_of (spans_onto out j es)) es
within_onto out j es b =
    subst (λ ws. Within ws es) (sym (map_map (λ d. span_onto d (get_or es d 0) out j) window_of (counted 0 (length es))))
    (within_counted (λ d. window_of (span_onto d (get_or es d 0) out j)) es 0
    (λ i h.
    let z : 0 + i ≡ i = omega arith in
    subst (λ d. (window_of (span_onto d (get_or es d 0) out j)).offset + (window_of (span_onto d (get_or es d 0) out j)).size
    ≤ get_or es i 0) (sym z)
    (window_fits (get_or es i 0) (span_onto i (get_or es i 0) out j)
    (span_bounded (get_or es i 0) i (record { from = 0; to = get_or es i 0 }) out j (omega arith, omega arith)
    (λ n p q e. index_below out j es n i b p e)))))

has_in : (s : Span) (x : ℕ) → In s x → has (window_of s) x ≡ true
has_in s x h =
    and_from (nat_le s.from x) (nat_lt x (s.from + (s.to - s.from))) (le-leb s.from x h.0)
    (lt-ltb x (s.from + (s.to - s.from)) (omega (arith, h.0, h.1)))

in_has : (s : Span) (x : ℕ) → has (window_of s) x ≡ true → In s x
in_has s x h =
    let p = and_parts (nat_le s.from x) (nat_lt x (s.from + (s.to - s.from))) h in
    let a = leb-true s.from x p.0 in
    let b = ltb-true x (s.from + (s.to - s.from)) p.1 in
    (a, omega arith)

inside_get : (ws : List Window) (p : Point) (d : ℕ) → inside ws p ≡ true → d < length ws
    → has (get_or ws d no_window) (get_or p d 0) ≡ true
inside_get [] p d h l = absurd (omega arith)
inside_get (w ∷ ws) [] d h l = cc
inside_get (w ∷ ws) (i ∷ p) zero h l = (and_parts (has w i) (inside ws p) h).0
inside_get (w ∷ ws) (i ∷ p) (suc d) h l = inside_get ws p d (and_parts (has w i) (inside ws p) h).1 (omega arith)

leads_inside : (out : List ℕ) (j : Point) (es : List ℕ) (p : Point) → Below p es → length j ≡ length out
    → at out p ≡ j → inside (map window_of (spans_onto out j es)) p ≡ true
leads_inside out j es p c l e =
    let ws = map window_of (spans_onto out j es) in
    inside_each ws p (below_length p es c ∙ sym (length_onto out j es))
    (λ d h.
    let k : d < length es = subst (λ n. d < n) (length_onto out j es) h in
    let x = get_or p d 0 in
    subst (λ w. has w x ≡ true) (sym (get_onto out j es d k))
    (has_in (span_onto d (get_or es d 0) out j) x
    (span_holds d x (record { from = 0; to = get_or es d 0 }) out j (omega arith, get_below d p es c k)
    (λ n a b q.
    sym (ap (λ r. get_or r n 0) e) ∙ get_or-map (λ d. get_or p d 0) out n 0 0 a ∙ ap (λ d. get_or p d 0) q))))

inside_leads : (out : List ℕ) (j : Point) (es : List ℕ) (p : Point) → Below j (at out es) → length j ≡ length out
    → inside (map window_of (spans_onto out j es)) p ≡ true → at out p ≡ j
inside_leads out j es p b l h =
    ext_get_or 0 (at out p) j (length-picked 0 out p ∙ sym l)
    (λ n k.
    let a : n < length out = subst (λ m. n < m) (length-picked 0 out p) k in
    let d = get_or out n 0 in
    let lt = index_below out j es n d b a refl in
    let inner : d < length es = in_range es d (get_or j n 0) lt in
    let i = inside_get (map window_of (spans_onto out j es)) p d h
    (subst (λ m. d < m) (sym (length_onto out j es)) inner) in
    let x = in_has (span_onto d (get_or es d 0) out j) (get_or p d 0)
    (subst (λ w. has w (get_or p d 0) ≡ true) (get_onto out j es d inner) i) in
    get_or-map (λ d. get_or p d 0) out n 0 0 a
    ∙ span_pins d (get_or p d 0) (record { from = 0; to = get_or es d 0 }) out j n x a
    (subst (λ m. n < m) (sym l) a) refl)
  where
    in_range : (es : List ℕ) (d i : ℕ) → i < get_or es d 0 → d < length es
    in_range [] d i h = absurd (omega arith)
    in_range (e ∷ es) zero i h = omega arith
    in_range (e ∷ es) (suc d) i h = let r = in_range es d i h in omega arith

filter_same : (P : Point → Type 0) (s t : Points) (ps : List Point) → Each P ps → ((p : Point) → P p → s p ≡ t p)
    → filter s ps ≡ filter t ps
filter_same P s t [] q h = refl
filter_same P s t (p ∷ ps) q h = let a = h p q.0 in let b = filter_same P s t ps q.1 h in cc

-- the points that lead to an index are those of its box, in order
pub points_in_box : (out es : List ℕ) (j : Point) → Below j (at out es)
    → filter (onto out j) (points es) ≡ spread (spans_onto out j es)
points_in_box out es j b =
    let ss = spans_onto out j es in
    let ws = map window_of ss in
    let l : length j ≡ length out = below_length j (at out es) b ∙ length-picked 0 out es in
    filter_same (λ p. Below p es) (onto out j) (both (inside ws) everywhere) (points es) (points_below es)
    (λ p c. tests (onto out j p) (inside ws p)
    (λ e. leads_inside out j es p c l (same_point-true (at out p) j e))
    (λ e. ap (λ q. same_point q j) (inside_leads out j es p b l e) ∙ same_point-self j))
    ∙ points_of_windows es ws (within_onto out j es b) ∙ sym (spread_is ss)
  where
    tests : (a b : Bool) → (a ≡ true → b ≡ true) → (b ≡ true → a ≡ true) → a ≡ (b && true)
    tests true b f g = rw (f refl) refl
    tests false true f g = (let m = g refl in cc)
    tests false false f g = refl

pub spans_length : (out : List ℕ) (j : Point) (es : List ℕ) → length (spans_onto out j es) ≡ length es
spans_length out j es =
    length-map (counted 0 (length es)) (λ d. span_onto d (get_or es d 0) out j) ∙ length_counted (length es) 0
