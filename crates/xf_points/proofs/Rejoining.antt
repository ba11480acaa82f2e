-- A reduction split over partial accumulators gives the reduction.
use Rattle.std.proofs.Common.{◌≡◌, ℕ, zero, suc, ◌+◌, ◌*◌, ◌<◌, ◌≤◌, List, [], ◌∷◌, ◌++◌, Bool, true, false, refl, sym}
use Rattle.std.proofs.Common.{ap, ◌∙◌, subst, arith}
use Rattle.std.specs.Prelude.{map, flat_map, length, get_or, ◌==◌, ◌&&◌, if◌then◌else◌}
use Rattle.std.proofs.lemmas.Bool.{eqb-true}
use Rattle.std.proofs.lemmas.List.{map-append, map-id, append-nil, append_assoc, length-append, get_or_at}
use Rattle.xf_points.specs.Points.{Point, Each, Below, counted, same_point, points, at}
use Rattle.xf_points.specs.Folds.{Points, Step, both, everywhere, folded, onto, partial, result, OrderIsFree}
use Rattle.xf_points.specs.Operands.{Among, Joins}
use Rattle.xf_points.specs.Windows.{Window, sizes, whole, Within, inside, placed}
use Rattle.xf_points.specs.Splitting.{turn_windows, split_turn, accumulators, rejoined}
use Rattle.xf_points.proofs.Lists.{points_within, folded-map, folded_none}
use Rattle.xf_points.proofs.Sets.{points_below, folded_same}
use Rattle.xf_points.proofs.Maps.{below_length, sizes_length, length-picked}
use Rattle.xf_points.proofs.Turns.{partial_either, partial_fits}
use Rattle.xf_points.proofs.Results.{whole_within, has_whole, joining_free, get_below}
use Rattle.xf_points.proofs.Orders.{unit, units, zeros, unit_has}
use Rattle.xf_points.proofs.Splitting.{times_more, at_number, class, classes, class_apart, classes_apart, classes_all}
use Rattle.xf_points.proofs.Splitting.{repeated_along, same_ends, windows, windows_within, placed_others, placed_r}
use Rattle.xf_points.proofs.Splitting.{inside_at}

-- ---- points that begin with an index

starts : Point → Points
starts [] p = true
starts (i ∷ j) [] = false
starts (i ∷ j) (k ∷ p) = (k == i) && starts j p

front_windows : Point → List ℕ → List Window
front_windows j es = units j ++ whole es

pub sizes_whole : (es : List ℕ) → sizes (whole es) ≡ es
sizes_whole [] = refl
sizes_whole (e ∷ es) = ap (λ xs. e ∷ xs) (sizes_whole es)

front_points : (j : Point) (es : List ℕ) → points (sizes (front_windows j es)) ≡ map (λ p. zeros j ++ p) (points es)
unfolding front_windows units unit zeros
front_points [] es = ap points (sizes_whole es) ∙ sym (map-id (points es))
front_points (i ∷ j) es = rw (front_points j es) (append-nil _ ∙ map_map (points es))
  where
    map_map : (ps : List Point) → map (λ p. 0 ∷ p) (map (λ p. zeros j ++ p) ps) ≡ map (λ p. (0 ∷ zeros j) ++ p) ps
    map_map [] = refl
    map_map (p ∷ ps) = ap (λ xs. ((0 ∷ zeros j) ++ p) ∷ xs) (map_map ps)

pub whole_placed : (es : List ℕ) (p : Point) → placed (whole es) p ≡ p
whole_placed [] p = refl
whole_placed (e ∷ es) [] = refl
whole_placed (e ∷ es) (i ∷ p) = (let a : 0 + i ≡ i = omega arith in let b = whole_placed es p in cc)

front_placed : (j : Point) (es : List ℕ) (p : Point) → placed (front_windows j es) (zeros j ++ p) ≡ j ++ p
unfolding front_windows units unit zeros
front_placed [] es p = whole_placed es p
front_placed (i ∷ j) es p = (let a : i + 0 ≡ i = omega arith in let b = front_placed j es p in cc)

front_within : (j s es : List ℕ) → Below j s → Within (front_windows j es) (s ++ es)
unfolding front_windows units unit
front_within [] [] es b = whole_within es
front_within [] (e ∷ s) es b = absurd b
front_within (i ∷ j) [] es b = absurd b
front_within (i ∷ j) (e ∷ s) es b = (omega (arith, b.0), front_within j s es b.1)

pub whole_inside : (es : List ℕ) (p : Point) → Below p es → inside (whole es) p ≡ true
whole_inside [] [] b = refl
whole_inside [] (i ∷ p) b = absurd b
whole_inside (e ∷ es) [] b = absurd b
whole_inside (e ∷ es) (i ∷ p) b = rw (has_whole e i b.0) (whole_inside es p b.1)

front_inside : (j s es : List ℕ) (p : Point) → Below j s → Below p (s ++ es) → inside (front_windows j es) p
    ≡ starts j p
unfolding front_windows units starts
front_inside [] [] es p c b = whole_inside es p b
front_inside [] (e ∷ s) es p c b = absurd c
front_inside (i ∷ j) [] es p c b = absurd c
front_inside (i ∷ j) (e ∷ s) es [] c b = absurd b
front_inside (i ∷ j) (e ∷ s) es (k ∷ p) c b = rw (unit_has i k, front_inside j s es p c.1 b.1) refl

starts_with : {A : Type 0} (j s es : List ℕ) (t : Points) (f : Step A) (a : A) → Below j s
    → folded (both (starts j) t) f (points (s ++ es)) a ≡ folded (λ p. t (j ++ p)) (λ p. f (j ++ p)) (points es) a
starts_with j s es t f a b =
    folded_same (λ p. Below p (s ++ es)) (both (starts j) t) (both (inside (front_windows j es)) t) f f
    (points (s ++ es)) a (points_below (s ++ es)) (λ p c. ap (λ u. u && t p) (sym (front_inside j s es p b c)))
    (λ p a c e. refl)
    ∙ points_within (s ++ es) (front_windows j es) t f a (front_within j s es b)
    ∙ ap (λ ps. folded (λ p. t (placed (front_windows j es) p)) (λ p. f (placed (front_windows j es) p)) ps a)
    (front_points j es)
    ∙ folded-map (λ p. t (placed (front_windows j es) p)) (λ p. f (placed (front_windows j es) p)) (λ p. zeros j ++ p)
    (points es) a
    ∙ folded_same (λ p. Below p es) (λ p. t (placed (front_windows j es) (zeros j ++ p))) (λ p. t (j ++ p))
    (λ p. f (placed (front_windows j es) (zeros j ++ p))) (λ p. f (j ++ p)) (points es) a (points_below es)
    (λ p c. ap t (front_placed j es p)) (λ p a c e. ap (λ q. f q a) (front_placed j es p))

first_dims : (j p q : Point) (k : ℕ) → length q ≡ k → length j ≤ length p
    → same_point (at (counted k (length j)) (q ++ p)) j ≡ starts j p
unfolding starts
first_dims [] p q k l h = refl
first_dims (i ∷ j) [] q k l h = (let no : ⊥ = omega (arith, h) in absurd no)
first_dims (i ∷ j) (y ∷ p) q k l h =
    let a : get_or (q ++ y ∷ p) k 0 ≡ y = get_or_at q y p 0 k l in
    let b : (q ++ y ∷ []) ++ p ≡ q ++ y ∷ p = append_assoc q (y ∷ []) p in
    let m : length (q ++ y ∷ []) ≡ k + 1 = length-append q (y ∷ []) ∙ ap (λ n. n + 1) l in
    let c = first_dims j p (q ++ y ∷ []) (k + 1) m (omega (arith, h)) in
    ap (λ n. (n == i) && same_point (at (counted (k + 1) (length j)) (q ++ y ∷ p)) j) a
    ∙ ap (λ u. (y == i) && u) (ap (λ z. same_point (at (counted (k + 1) (length j)) z) j) (sym b) ∙ c)

-- ---- the split

module _ {A : Type 0} (Fit : A → Type 0) (c : A → A → A) (join : Joins Fit c) (neutral : A) (fit : Fit neutral)
    (rests : (a : A) → Fit a → c a neutral ≡ a)
    (es out : List ℕ) (r factor turns : ℕ) (e : Point → A) (x : Point → A)
    (h : r < length es) (o : Each (λ d. d < length es) out) (apart : Among r out → ⊥) (some : 0 < factor)
    (whole_turns : get_or es r 0 ≡ turns * factor)
    (brings : (p : Point) → Below p es → Fit (e p)) where
  abbrev pub step : Step A
  step p a = c a (e p)

  free : OrderIsFree Fit es out step
  free = joining_free Fit c es out e step join brings (λ p a b f. refl)

  -- the accumulators behind t turns
  Accumulated : ℕ → (Point → A) → Type 0
  Accumulated t y =
      (j : Point) (f : ℕ) → length j ≡ length out → f < factor → y (j ++ f ∷ [])
      ≡ partial es out step (class r factor t f) (λ i. neutral) j

  one_turn : (t : ℕ) (y : Point → A) → t < turns → Accumulated t y
      → Accumulated (t + 1) (split_turn es out r factor step t y)
  unfolding Accumulated at_number class windows
  one_turn t y l i j f m k =
      let room : t * factor + factor ≤ get_or es r 0 =
      (let a = times_more t turns factor l in omega (arith, a, whole_turns)) in
      let ws = turn_windows es r factor t in
      let s : Points = both (at_number r factor (t * factor + f)) (onto out j) in
      let next : suc t ≡ t + 1 = omega arith in
      folded_same (λ p. Below p (sizes ws)) (both everywhere (onto (out ++ r ∷ []) (j ++ f ∷ [])))
      (λ p. s (placed ws p)) (λ p. step (placed ws p)) (λ p. step (placed ws p)) (points (sizes ws))
      (y (j ++ f ∷ [])) (points_below (sizes ws))
      (λ p b.
      let lp : length p ≡ length ws = below_length p (sizes ws) b ∙ sizes_length ws in
      let q1 : at (out ++ r ∷ []) p ≡ at out p ++ get_or p r 0 ∷ [] = map-append (λ d. get_or p d 0) out (r ∷ []) in
      let q2 = same_ends (at out p) j (get_or p r 0) f (length-picked 0 out p ∙ sym m) in
      let q3 : at out (placed ws p) ≡ at out p = placed_others es r factor t h room out p lp o apart in
      let q4 : get_or (placed ws p) r 0 ≡ t * factor + get_or p r 0 = placed_r es r factor t h room p lp in
      ap (λ z. same_point z (j ++ f ∷ [])) q1 ∙ q2 ∙ and_swap (same_point (at out p) j) (get_or p r 0 == f)
      ∙ ap (λ u. u && same_point (at out p) j) (sym (shifted (t * factor) (get_or p r 0) f))
      ∙ ap (λ n. (n == t * factor + f) && same_point (at out p) j) (sym q4)
      ∙ ap (λ z. (get_or (placed ws p) r 0 == t * factor + f) && same_point z j) (sym q3))
      (λ p a b e. refl)
      ∙ sym (points_within es ws s step (y (j ++ f ∷ [])) (windows_within es r factor t h room))
      ∙ folded_same (λ p. Below p es) (both (inside ws) s) s step step (points es) (y (j ++ f ∷ [])) (points_below es)
      (λ p b. covers (inside ws p) (at_number r factor (t * factor + f) p) (onto out j p)
      (λ u. inside_at es r factor t h room p f b k (eqb-true (get_or p r 0) (t * factor + f) u)))
      (λ p a b e. refl)
      ∙ ap (folded s step (points es)) (i j f m k)
      ∙ partial_either Fit es out step (class r factor t f) (at_number r factor (t * factor + f))
      (λ i. neutral) j free (λ p u. class_apart r factor t f p some u) fit
      ∙ ap (λ n. partial es out step (class r factor n f) (λ i. neutral) j) next
    where
      and_swap : (a b : Bool) → (a && b) ≡ (b && a)
      and_swap true true = refl
      and_swap true false = refl
      and_swap false true = refl
      and_swap false false = refl

      shifted : (m i f : ℕ) → (m + i == m + f) ≡ (i == f)
      shifted m i f = grind arith

      covers : (a b d : Bool) → (b ≡ true → a ≡ true) → (a && (b && d)) ≡ (b && d)
      covers true b d g = refl
      covers false true d g = (let u = g refl in cc)
      covers false false d g = refl

  accumulated : Accumulated turns (accumulators es out r factor step neutral turns)
  unfolding Accumulated class
  accumulated =
      let all : 0 + turns ≡ turns = omega arith in
      subst (λ n. Accumulated n (accumulators es out r factor step neutral turns)) all
      (repeated_along (split_turn es out r factor step) Accumulated turns 0 (λ j. neutral)
      (λ t y l i. one_turn t y (omega (arith, l)) i)
      (λ j f m k. sym (folded_none (both (class r factor 0 f) (onto out j)) step (points es) neutral (λ p. refl))))

  -- what is joined to the result of points may be joined before them
  joined_before : (s : Points) (ps : List Point) (a y : A) → Each (λ p. Below p es) ps → Fit a → Fit y
      → c a (folded s step ps y) ≡ folded s step ps (c a y)
  joined_before s [] a y q f g = refl
  joined_before s (p ∷ ps) a y q f g = cases (s p) (λ z k. joined_before s ps a z q.1 f k)
    where
      cases : (b : Bool) → ((z : A) → Fit z → c a (folded s step ps z) ≡ folded s step ps (c a z))
          → c a (folded s step ps (if b then c y (e p) else y))
          ≡ folded s step ps (if b then c (c a y) (e p) else c a y)
      cases true ih =
          ih (c y (e p)) (join.fits y (e p) g (brings p q.0))
          ∙ ap (folded s step ps) (sym (join.associates a y (e p) f g (brings p q.0)))
      cases false ih = ih y g

  one_class : (j : Point) (f : ℕ) → length j ≡ length out → f < factor → Fit (x j)
      → c (partial es out step (classes r factor turns f) x j)
      (accumulators es out r factor step neutral turns (j ++ f ∷ []))
      ≡ partial es out step (classes r factor turns (suc f)) x j
  unfolding classes Accumulated
  one_class j f m k g =
      let a = partial es out step (classes r factor turns f) x j in
      let fa : Fit a = partial_fits Fit es out step (classes r factor turns f) x j free g in
      ap (c a) (accumulated j f m k)
      ∙ joined_before (both (class r factor turns f) (onto out j)) (points es) a neutral (points_below es) fa fit
      ∙ ap (folded (both (class r factor turns f) (onto out j)) step (points es)) (rests a fa)
      ∙ partial_either Fit es out step (classes r factor turns f) (class r factor turns f) x j free
      (λ p u. classes_apart r factor turns f p k u) g

  all_classes : (n k : ℕ) (j : Point) → length j ≡ length out → k + n ≤ factor → Fit (x j)
      → folded everywhere (λ p a. c a (accumulators es out r factor step neutral turns (j ++ p)))
      (flat_map (λ i. map (λ p. i ∷ p) ([] ∷ [])) (counted k n)) (partial es out step (classes r factor turns k) x j)
      ≡ partial es out step (classes r factor turns (k + n)) x j
  all_classes zero k j m l g = ap (λ n. partial es out step (classes r factor turns n) x j) (omega arith)
  all_classes (suc n) k j m l g =
      let next : suc k ≡ k + 1 = omega arith in
      ap (folded everywhere (λ p a. c a (accumulators es out r factor step neutral turns (j ++ p)))
      (flat_map (λ i. map (λ p. i ∷ p) ([] ∷ [])) (counted (k + 1) n)))
      (one_class j k m (omega (arith, l)) g
      ∙ ap (λ n. partial es out step (classes r factor turns n) x j) next)
      ∙ all_classes n (k + 1) j m (omega (arith, l)) g
      ∙ ap (λ n. partial es out step (classes r factor turns n) x j) (omega arith)

  -- the split reduction gives the reduction
  pub split_is : (j : Point) → Below j (at out es) → Fit (x j)
      → rejoined es out factor c (accumulators es out r factor step neutral turns) x j ≡ result es out step x j
  unfolding classes
  split_is j b g =
      let y = accumulators es out r factor step neutral turns in
      let s = at out es in
      let m : length j ≡ length out = below_length j s b ∙ length-picked 0 out es in
      let f : Step A = (λ p a. c a (y p)) in
      let z : 0 + factor ≡ factor = omega arith in
      folded_same (λ p. Below p (s ++ factor ∷ [])) (both everywhere (onto (counted 0 (length out)) j))
      (both (starts j) everywhere) f f (points (s ++ factor ∷ [])) (x j) (points_below (s ++ factor ∷ []))
      (λ p d.
      let lp : length p ≡ length j + 1 = below_length p (s ++ factor ∷ []) d ∙ length-append s (factor ∷ [])
      ∙ ap (λ n. n + 1) (sym (below_length j s b)) in
      ap (λ n. same_point (at (counted 0 n) p) j) (sym m) ∙ first_dims j p [] 0 refl (omega (arith, lp))
      ∙ and_true (starts j p))
      (λ p a d e. refl)
      ∙ starts_with j s (factor ∷ []) everywhere f (x j) b
      ∙ ap (folded everywhere (λ p a. c a (y (j ++ p))) (points (factor ∷ [])))
      (sym (folded_none (both (classes r factor turns 0) (onto out j)) step (points es) (x j) (λ p. refl)))
      ∙ all_classes factor 0 j m (omega arith) g
      ∙ ap (λ n. partial es out step (classes r factor turns n) x j) z
      ∙ folded_same (λ p. Below p es) (both (classes r factor turns factor) (onto out j))
      (both everywhere (onto out j)) step step (points es) (x j) (points_below es)
      (λ p d. (let l = below_r p d in ap (λ u. u && onto out j p) (classes_all r factor turns p some l)))
      (λ p a d e. refl)
    where
      and_true : (b : Bool) → b ≡ (b && true)
      and_true true = refl
      and_true false = refl

      below_r : (p : Point) → Below p es → get_or p r 0 < turns * factor
      below_r p d = subst (λ n. get_or p r 0 < n) whole_turns (get_below r p es d h)
