-- The points of a space in any order give the result.
use Rattle.std.proofs.Common.{◌≡◌, ◌⊎◌, ℕ, zero, suc, ◌+◌, ◌<◌, ◌≤◌, List, [], ◌∷◌, ◌++◌, Bool, true, false, refl, sym}
use Rattle.std.proofs.Common.{ap, ◌∙◌, subst, inl, inr, arith}
use Rattle.std.specs.Prelude.{map, flat_map, length, get_or, ◌==◌, ◌&&◌, ◌||◌, if◌then◌else◌}
use Rattle.std.proofs.lemmas.Bool.{false_from_ne_true, or_right, cases_eq}
use Rattle.xf_points.specs.Points.{Point, Each, Below, counted, points, same_point, at}
use Rattle.xf_points.specs.Folds.{Points, Step, both, either, nowhere, everywhere, folded, onto, partial, result}
use Rattle.xf_points.specs.Folds.{OrderIsFree}
use Rattle.xf_points.specs.Windows.{Window, sizes, Within, has, inside, placed}
use Rattle.xf_points.specs.Operands.{Operand, reads, AllParallel}
use Rattle.xf_points.specs.Orders.{among, OncePoints, Lists, Exchange, renumbered, renumbered_operands}
use Rattle.xf_points.proofs.Lists.{points_within, folded-map, folded_none}
use Rattle.xf_points.proofs.Sets.{same_functions, each-append, each-map, points_below, folded_same}
use Rattle.xf_points.proofs.Maps.{below_length, length-picked, at_below, same_point-true, same_point-self}
use Rattle.xf_points.proofs.Tensors.{get_counted}
use Rattle.xf_points.proofs.Results.{same_at}
use Rattle.std.proofs.lemmas.List.{ext_get_or}
use Rattle.xf_points.proofs.Turns.{partial_either}

-- ---- one point

unfoldable pub unit : ℕ → Window
unit i = record { offset = i; size = 1 }

unfoldable pub units : Point → List Window
units p = map unit p

unfoldable pub zeros : Point → Point
zeros p = map (λ i. 0) p

unit_points : (p : Point) → points (sizes (units p)) ≡ zeros p ∷ []
unfolding units unit zeros
unit_points [] = refl
unit_points (i ∷ p) = rw (unit_points p) refl

pub unit_placed : (p : Point) → placed (units p) (zeros p) ≡ p
unfolding units unit zeros
unit_placed [] = refl
unit_placed (i ∷ p) = (let a : i + 0 ≡ i = omega arith in let b = unit_placed p in cc)

pub unit_within : (p es : List ℕ) → Below p es → Within (units p) es
unfolding units unit
unit_within [] [] b = tt
unit_within [] (e ∷ es) b = absurd b
unit_within (i ∷ p) [] b = absurd b
unit_within (i ∷ p) (e ∷ es) b = (omega (arith, b.0), unit_within p es b.1)

pub unit_has : (i k : ℕ) → has (unit i) k ≡ (k == i)
unfolding unit
unit_has i k = grind arith

pub unit_inside : (q p : Point) → inside (units q) p ≡ same_point p q
unfolding units
unit_inside [] [] = refl
unit_inside [] (k ∷ p) = refl
unit_inside (i ∷ q) [] = refl
unit_inside (i ∷ q) (k ∷ p) = rw (unit_has i k, unit_inside q p) refl

pub one_point : {A : Type 0} (es : List ℕ) (s : Points) (f : Step A) (q : Point) (x : A) → Below q es
    → folded (both (λ p. same_point p q) s) f (points es) x ≡ (if s q then f q x else x)
one_point es s f q x b =
    folded_same (λ p. Below p es) (both (λ p. same_point p q) s) (both (inside (units q)) s) f f (points es) x
    (points_below es) (λ p c. ap (λ b. b && s p) (sym (unit_inside q p))) (λ p a c e. refl)
    ∙ points_within es (units q) s f x (unit_within q es b)
    ∙ ap (λ ps. folded (λ p. s (placed (units q) p)) (λ p. f (placed (units q) p)) ps x) (unit_points q)
    ∙ ap (λ p. if s p then f p x else x) (unit_placed q)

-- ---- any order

or_none : (b : Bool) → (b || false) ≡ b
or_none true = refl
or_none false = refl

or_assoc : (a b c : Bool) → ((a || b) || c) ≡ (a || (b || c))
or_assoc true b c = refl
or_assoc false b c = refl

each_both : {A : Type 0} (P Q R : A → Type 0) (xs : List A) → ((x : A) → P x → Q x → R x) → Each P xs → Each Q xs
    → Each R xs
each_both P Q R [] f h k = tt
each_both P Q R (x ∷ xs) f h k = (f x h.0 k.0, each_both P Q R xs f h.1 k.1)

module _ {A : Type 0} (Fit : A → Type 0) (es out : List ℕ) (step : Step A) (x : Point → A) (j : Point)
    (free : OrderIsFree Fit es out step) (fits : Fit (x j)) where
  same_sets : (s t : Points) → ((p : Point) → s p ≡ t p) → partial es out step s x j ≡ partial es out step t x j
  same_sets s t h = ap (λ r. partial es out step r x j) (same_functions s t h)

  list_is : (l : List Point) (s : Points) → Each (λ p. Below p es) l → OncePoints l → Each (λ p. s p ≡ false) l
      → folded (onto out j) step l (partial es out step s x j) ≡ partial es out step (either s (among l)) x j
  list_is [] s b o a = same_sets s (either s (among [])) (λ p. sym (or_none (s p)))
  list_is (q ∷ qs) s b o a =
      let t : Points = (λ p. same_point p q) in
      let apart : (p : Point) → s p ≡ true → t p
      ≡ false =
      (λ p e. false_from_ne_true (same_point p q)
      (λ f. let g = same_point-true p q f in let h = ap s g in let k = a.0 in cc)) in
      ap (folded (onto out j) step qs)
      (sym (one_point es (onto out j) step q (partial es out step s x j) b.0)
      ∙ partial_either Fit es out step s t x j free apart fits)
      ∙ list_is qs (either s t) b.1 o.1
      (each_both (λ r. s r ≡ false) (λ r. same_point r q ≡ false) (λ r. (s r || same_point r q) ≡ false) qs
      (λ r h k. rw (h, k) refl) a.1 o.0)
      ∙ same_sets (either (either s t) (among qs)) (either s (among (q ∷ qs)))
      (λ p. or_assoc (s p) (same_point p q) (among qs p))

each_nowhere : (l : List Point) → Each (λ p. nowhere p ≡ false) l
each_nowhere [] = tt
each_nowhere (p ∷ l) = (refl, each_nowhere l)

-- whatever the order
pub any_order : {A : Type 0} (Fit : A → Type 0) (es out : List ℕ) (step : Step A) (x : Point → A) (j : Point)
    (l : List Point)
    → OrderIsFree Fit es out step → Fit (x j) → Lists es l → folded (onto out j) step l (x j) ≡ result es out step x j
any_order Fit es out step x j l free fits h =
    ap (folded (onto out j) step l) (sym (folded_none (both nowhere (onto out j)) step (points es) (x j) (λ p. refl)))
    ∙ list_is Fit es out step x j free fits l nowhere h.below h.once (each_nowhere l)
    ∙ folded_same (λ p. Below p es) (both (either nowhere (among l)) (onto out j))
    (both everywhere (onto out j)) step step (points es) (x j) (points_below es)
    (λ p b. ap (λ c. c && onto out j p) (h.all p b)) (λ p a b e. refl)

-- ---- the points in lexicographic order are such a list

once-append : (xs ys : List Point) → OncePoints xs → OncePoints ys
    → Each (λ x. Each (λ y. same_point y x ≡ false) ys) xs → OncePoints (xs ++ ys)
once-append [] ys h k a = k
once-append (x ∷ xs) ys h k a = (each-append (λ r. same_point r x ≡ false) xs ys h.0 a.0, once-append xs ys h.1 k a.1)

pub once-map : (P : Point → Type 0) (f : Point → Point) (xs : List Point)
    → ((p q : Point) → P p → P q → same_point p q ≡ false → same_point (f p) (f q) ≡ false) → Each P xs
    → OncePoints xs → OncePoints (map f xs)
once-map P f [] h q o = tt
once-map P f (x ∷ xs) h q o = (
  each-map (λ r. P r × (same_point r x ≡ false)) (λ r. same_point r (f x) ≡ false) f xs (λ r k. h r x k.0 q.0 k.1)
      (each_both P (λ r. same_point r x ≡ false) (λ r. P r × (same_point r x ≡ false)) xs
      (λ r a b. (a, b)) q.1 o.0),
  once-map P f xs h q.1 o.1,
)

StartsFrom : ℕ → Point → Type 0
StartsFrom k [] = ⊥
StartsFrom k (i ∷ p) = k ≤ i

any_each : {A : Type 0} (P : A → Type 0) (xs : List A) → ((x : A) → P x) → Each P xs
any_each P [] h = tt
any_each P (x ∷ xs) h = (h x, any_each P xs h)

rows_start : (ps : List Point) (n k : ℕ) → Each (StartsFrom k) (flat_map (λ i. map (λ p. i ∷ p) ps) (counted k n))
unfolding StartsFrom
rows_start ps zero k = tt
rows_start ps (suc n) k =
    each-append (StartsFrom k) (map (λ p. k ∷ p) ps) _
    (each-map (λ p. Unit {0}) (StartsFrom k) (λ p. k ∷ p) ps (λ p u. omega arith)
    (any_each (λ p. Unit {0}) ps (λ p. tt)))
    (weaker (flat_map (λ i. map (λ p. i ∷ p) ps) (counted (k + 1) n)) (rows_start ps n (k + 1)))
  where
    weaker : (xs : List Point) → Each (StartsFrom (k + 1)) xs → Each (StartsFrom k) xs
    weaker [] h = tt
    weaker ([] ∷ xs) h = absurd h.0
    weaker ((i ∷ p) ∷ xs) h = (omega (arith, h.0), weaker xs h.1)

start_apart : (k : ℕ) (p y : Point) → StartsFrom (k + 1) y → same_point y (k ∷ p) ≡ false
unfolding StartsFrom
start_apart k p [] h = refl
start_apart k p (i ∷ y) h = rw (apart i k h) refl
  where
    apart : (i k : ℕ) → k + 1 ≤ i → (i == k) ≡ false
    apart i k h = grind arith

rows_once : (ps : List Point) (n k : ℕ) → OncePoints ps
    → OncePoints (flat_map (λ i. map (λ p. i ∷ p) ps) (counted k n))
rows_once ps zero k h = tt
rows_once ps (suc n) k h =
    once-append (map (λ p. k ∷ p) ps) _
    (once-map (λ p. Unit {0}) (λ p. k ∷ p) ps (λ p q a b e. (let s : (k == k) ≡ true = grind arith in rw (s, e) refl))
    (any_each (λ p. Unit {0}) ps (λ p. tt)) h)
    (rows_once ps n (k + 1) h)
    (each-map (λ p. Unit {0}) _ (λ p. k ∷ p) ps
    (λ p u. each_same (λ y. StartsFrom (k + 1) y) (λ y. same_point y (k ∷ p) ≡ false) _ (λ y s. start_apart k p y s)
    (rows_start ps n (k + 1)))
    (any_each (λ p. Unit {0}) ps (λ p. tt)))
  where
    each_same : (P Q : Point → Type 0) (xs : List Point) → ((x : Point) → P x → Q x) → Each P xs → Each Q xs
    each_same P Q [] f h = tt
    each_same P Q (x ∷ xs) f h = (f x h.0, each_same P Q xs f h.1)

pub points_once : (es : List ℕ) → OncePoints (points es)
points_once [] = (tt, tt)
points_once (e ∷ es) = rows_once (points es) e 0 (points_once es)

among-append : (xs ys : List Point) (p : Point) → (among xs p || among ys p) ≡ among (xs ++ ys) p
among-append [] ys p = refl
among-append (x ∷ xs) ys p =
    or_assoc (same_point p x) (among xs p) (among ys p) ∙ ap (λ b. same_point p x || b) (among-append xs ys p)

pub among-map : (f : Point → Point) (xs : List Point) (q : Point) → among xs q ≡ true → among (map f xs) (f q) ≡ true
among-map f [] q h = cc
among-map f (x ∷ xs) q h = cases (same_point q x) refl h (λ k. among-map f xs q k)
  where
    cases : (b : Bool) → same_point q x ≡ b → (b || among xs q) ≡ true
        → (among xs q ≡ true → among (map f xs) (f q) ≡ true) → (same_point (f q) (f x) || among (map f xs) (f q))
        ≡ true
    cases true e h later = (let a = ap f (same_point-true q x e) in let s = same_point-self (f x) in rw (a, s) refl)
    cases false e h later = or_right (same_point (f q) (f x)) (among (map f xs) (f q)) (later h)

row_among : (ps : List Point) (i : ℕ) (p : Point) → among ps p ≡ true → among (map (λ q. i ∷ q) ps) (i ∷ p) ≡ true
row_among ps i p h = among-map (λ q. i ∷ q) ps p h

rows_among : (ps : List Point) (n k i : ℕ) (p : Point) → k ≤ i → i < k + n → among ps p ≡ true
    → among (flat_map (λ i. map (λ p. i ∷ p) ps) (counted k n)) (i ∷ p) ≡ true
rows_among ps zero k i p h l a = (let no : ⊥ = omega (arith, h, l) in absurd no)
rows_among ps (suc n) k i p h l a =
    sym (among-append (map (λ p. k ∷ p) ps) (flat_map (λ i. map (λ p. i ∷ p) ps) (counted (k + 1) n)) (i ∷ p))
    ∙ cases (cases_eq k i) (λ m. rows_among ps n (k + 1) i p m (omega (arith, l)) a)
  where
    cases : ((k ≡ i) ⊎ (k ≡ i → ⊥))
        → (k + 1 ≤ i → among (flat_map (λ i. map (λ p. i ∷ p) ps) (counted (k + 1) n)) (i ∷ p) ≡ true)
        → (among (map (λ p. k ∷ p) ps) (i ∷ p) || among (flat_map (λ i. map (λ p. i ∷ p) ps) (counted (k + 1) n))
        (i ∷ p)) ≡ true
    cases (inl e) later =
        (let b = subst (λ m. among (map (λ p. m ∷ p) ps) (i ∷ p) ≡ true) (sym e) (row_among ps i p a) in rw b refl)
    cases (inr e) later = or_right (among (map (λ p. k ∷ p) ps) (i ∷ p)) _ (later (grind (arith, h, e)))

pub points_among : (es : List ℕ) (p : Point) → Below p es → among (points es) p ≡ true
points_among [] [] b = refl
points_among [] (i ∷ p) b = absurd b
points_among (e ∷ es) [] b = absurd b
points_among (e ∷ es) (i ∷ p) b =
    rows_among (points es) e 0 i p (omega arith) (omega (arith, b.0)) (points_among es p b.1)

pub points_list : (es : List ℕ) → Lists es (points es)
points_list es = record { below = points_below es; once = points_once es; all = points_among es }

-- ---- interchange

get_at : (ds : List ℕ) (q : Point) (d : ℕ) → d < length ds → get_or (at ds q) d 0 ≡ get_or q (get_or ds d 0) 0
get_at [] q d h = (let no : ⊥ = omega (arith, h) in absurd no)
get_at (e ∷ ds) q zero h = refl
get_at (e ∷ ds) q (suc d) h = get_at ds q d (omega (arith, h))

pub at_at : (ks ds : List ℕ) (q : Point) → Each (λ d. d < length ds) ks → at ks (at ds q) ≡ at (at ks ds) q
at_at [] ds q h = refl
at_at (k ∷ ks) ds q h = let a = get_at ds q k h.0 in let b = at_at ks ds q h.1 in cc

at_counted : (n : ℕ) (q : Point) → length q ≡ n → at (counted 0 n) q ≡ q
at_counted n q h = subst (λ m. at (counted 0 m) q ≡ q) h (get_counted 0 q [])

each_length : (n m : ℕ) (ks : List ℕ) → n ≡ m → Each (λ d. d < n) ks → Each (λ d. d < m) ks
each_length n m ks e h = subst (λ k. Each (λ d. d < k) ks) e h

module _ (n : ℕ) (old new : List ℕ) (ex : Exchange n old new) where
  there_back : (q : Point) → length q ≡ n → at old (at new q) ≡ q
  there_back q h =
      at_at old new q (each_length n (length new) old (sym ex.new_count) ex.old_dims) ∙ ap (λ ds. at ds q) ex.there
      ∙ at_counted n q h

  back_there : (p : Point) → length p ≡ n → at new (at old p) ≡ p
  back_there p h =
      at_at new old p (each_length n (length old) new (sym ex.old_count) ex.new_dims) ∙ ap (λ ds. at ds p) ex.back
      ∙ at_counted n p h

  -- the points of the interchanged space are those of the old one
  pub exchanged_list : (es : List ℕ) → length es ≡ n → Lists es (map (at new) (points (at old es)))
  exchanged_list es l =
      let es' = at old es in
      let l' : length es' ≡ n = length-picked 0 old es ∙ ex.old_count in
      let below : (q : Point) → Below q es'
      → Below (at new q) es =
      (λ q b. subst (Below (at new q)) (back_there es l)
      (at_below new q es' b (each_length n (length es') new (sym l') ex.new_dims))) in
      record {
        below = each-map (λ q. Below q es') (λ p. Below p es) (at new) (points es') below (points_below es');
        once = once-map (λ q. Below q es') (at new) (points es')
            (λ p q b c h. false_from_ne_true (same_point (at new p) (at new q))
            (λ e.
            let a : at new p ≡ at new q = same_point-true (at new p) (at new q) e in
            let lp : length p ≡ n = below_length p es' b ∙ l' in
            let lq : length q ≡ n = below_length q es' c ∙ l' in
            let d : p ≡ q = sym (there_back p lp) ∙ ap (at old) a ∙ there_back q lq in
            let f = same_point-self q in
            let g : same_point q q ≡ false = subst (λ r. same_point r q ≡ false) d h in cc))
            (points_below es') (points_once es');
        all = λ p b.
            let lp : length p ≡ n = below_length p es b ∙ l in
            let c : among (points es') (at old p)
            ≡ true =
            points_among es' (at old p)
            (at_below old p es b (each_length n (length es) old (sym l) ex.old_dims)) in
            subst (λ r. among (map (at new) (points es')) r ≡ true) (back_there p lp)
            (among-map (at new) (points es') (at old p) c);
      }

  at_renumbered : (ks : List ℕ) (q : Point) → Each (λ d. d < n) ks → at (renumbered new ks) q ≡ at ks (at new q)
  at_renumbered ks q h = sym (at_at ks new q (each_length n (length new) ks (sym ex.new_count) h))

  -- interchanged maps, iterators and extents give the same result
  pub interchanged_is : {A : Type 0} (Fit : A → Type 0) (es out : List ℕ) (step : Step A) (x : Point → A) (j : Point)
      → length es ≡ n → Each (λ d. d < n) out → OrderIsFree Fit es out step → Fit (x j)
      → result (at old es) (renumbered new out) (λ q. step (at new q)) x j ≡ result es out step x j
  interchanged_is Fit es out step x j l o free fits =
      folded_same (λ q. Below q (at old es)) (both everywhere (onto (renumbered new out) j))
      (λ q. onto out j (at new q)) (λ q. step (at new q)) (λ q. step (at new q)) (points (at old es)) (x j)
      (points_below (at old es))
      (λ q b. ap (λ r. same_point r j) (at_renumbered out q o)) (λ p a b e. refl)
      ∙ sym (folded-map (onto out j) step (at new) (points (at old es)) (x j))
      ∙ any_order Fit es out step x j (map (at new) (points (at old es))) free fits (exchanged_list es l)

  pub renumbered_reads : {A : Type 0} (ins : List (Operand A)) (q : Point)
      → Each (λ (o : Operand A). Each (λ d. d < n) o.dims) ins → reads (renumbered_operands new ins) q
      ≡ reads ins (at new q)
  renumbered_reads [] q h = refl
  renumbered_reads (o ∷ ins) q h =
      let a = ap o.items (at_renumbered o.dims q h.0) in let b = renumbered_reads ins q h.1 in cc

-- ---- without reductions

-- the element at the out index of a point is what the body makes at this one point
pub parallel_is : {A : Type 0} (es out : List ℕ) (step : Step A) (x : Point → A) (p : Point)
    → AllParallel (length es) out → Below p es → result es out step x (at out p) ≡ step p (x (at out p))
parallel_is es out step x p all b =
    folded_same (λ q. Below q es) (both everywhere (onto out (at out p)))
    (both (λ q. same_point q p) everywhere) step step (points es) (x (at out p)) (points_below es)
    (λ q c. same_tests q (onto out (at out p) q) (same_point q p)
    (λ e.
    let m = same_point-true (at out q) (at out p) e in
    let l = below_length q es c in
    let k = below_length p es b in
    let one : q ≡ p = ext_get_or 0 q p (l ∙ sym k) (λ d n. same_at out q p d m (all d (subst (λ r. d < r) l n))) in
    ap (λ r. same_point r p) one ∙ same_point-self p)
    (λ e. (let one = same_point-true q p e in ap (λ r. onto out (at out p) r) one ∙ same_point-self (at out p))))
    (λ p a b e. refl)
    ∙ one_point es everywhere step p (x (at out p)) b
  where
    same_tests : (q : Point) (a b : Bool) → (a ≡ true → b ≡ true) → (b ≡ true → a ≡ true) → (true && a) ≡ (b && true)
    same_tests q true true f g = refl
    same_tests q true false f g = (let k = f refl in cc)
    same_tests q false true f g = (let k = g refl in cc)
    same_tests q false false f g = refl
