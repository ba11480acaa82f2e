-- Results of structured operations: on windows, and by tiles.
use Rattle.std.proofs.Common.{◌≡◌, ◌⊎◌, ℕ, zero, suc, ◌+◌, ◌-◌, ◌<◌, List, [], ◌∷◌, Bool, true, false, refl, sym, ap}
use Rattle.std.proofs.Common.{◌∙◌, subst, inl, inr, arith}
use Rattle.std.specs.Prelude.{length, get_or, ◌&&◌}
use Rattle.std.proofs.lemmas.Bool.{and_parts}
use Rattle.std.proofs.lemmas.List.{ext_get_or}
use Rattle.xf_points.specs.Points.{Point, Each, Below, same_point, points, at}
use Rattle.xf_points.specs.Folds.{Step, both, either, nowhere, everywhere, onto, partial, result, OrderIsFree}
use Rattle.xf_points.specs.Windows.{Window, no_window, sizes, whole, Within, has, inside, placed, taken_from}
use Rattle.xf_points.specs.Windows.{windows_at, cut, pasted, turned, nested}
use Rattle.xf_points.specs.Operands.{Operand, BodyOf, reads, step_of, windowed, body_in, structured_in, tiled_turn}
use Rattle.xf_points.specs.Operands.{Among, AllParallel, ReductionsWhole, Joins}
use Rattle.xf_points.proofs.Lists.{folded_none}
use Rattle.xf_points.proofs.Sets.{same_functions, points_below, folded_same}
use Rattle.xf_points.proofs.Maps.{below_length, within_length, sizes_length, length-picked, at_placed, same_point-true}
use Rattle.xf_points.proofs.Maps.{same_placed}
use Rattle.xf_points.proofs.Turns.{result_in}
use Rattle.xf_points.proofs.Nests.{AreTiles, nested_is}

-- ---- the whole

pub whole_within : (es : List ℕ) → Within (whole es) es
whole_within [] = tt
whole_within (e ∷ es) = (omega arith, whole_within es)

whole_inside : (es : List ℕ) (p : Point) → Below p es → inside (whole es) p ≡ true
whole_inside [] [] b = refl
whole_inside [] (i ∷ p) b = absurd b
whole_inside (e ∷ es) [] b = refl-none b
  where
    refl-none : {P : Type 0} → ⊥ → P
    refl-none b = absurd b
whole_inside (e ∷ es) (i ∷ p) b = (let h = has_whole e i b.0 in rw h (whole_inside es p b.1))
  where
    has_whole : (e i : ℕ) → i < e → has (record { offset = 0; size = e }) i ≡ true
    has_whole e i h = grind arith

partial_nowhere : {A : Type 0} (es out : List ℕ) (step : Step A) (x : Point → A) → partial es out step nowhere x ≡ x
partial_nowhere es out step x =
    same_functions _ _ (λ j. folded_none (both nowhere (onto out j)) step (points es) (x j) (λ p. refl))

-- the loops over the tiles of some dimensions give the result
pub tiles_are : {A : Type 0} (Fit : A → Type 0) (es out : List ℕ) (step : Step A) (x : Point → A) (ts : List (ℕ × ℕ))
    → Each (λ d. d < length es) out → OrderIsFree Fit es out step → ((j : Point) → Fit (x j)) → AreTiles (length es) ts
    → nested ts (turned out step) (whole es) x ≡ result es out step x
tiles_are Fit es out step x ts o free fits a =
    ap (nested ts (turned out step) (whole es)) (sym (partial_nowhere es out step x))
    ∙ nested_is Fit es out step x o free fits ts (whole es) nowhere a (whole_within es) (λ p e. cc)
    ∙ same_functions _ _
    (λ j. folded_same (λ p. Below p es) (both (either nowhere (inside (whole es))) (onto out j))
    (both everywhere (onto out j)) step step (points es) (x j) (points_below es)
    (λ p b. ap (λ c. c && onto out j p) (whole_inside es p b)) (λ p a b e. refl))

-- ---- a window of the result

pub inside_placed : (ws : List Window) (p : Point) → Below p (sizes ws) → inside ws (placed ws p) ≡ true
inside_placed [] [] b = refl
inside_placed [] (i ∷ p) b = absurd b
inside_placed (w ∷ ws) [] b = absurd b
inside_placed (w ∷ ws) (i ∷ p) b = (let h = has_at w i b.0 in rw h (inside_placed ws p b.1))
  where
    has_at : (w : Window) (i : ℕ) → i < w.size → has w (w.offset + i) ≡ true
    has_at w i h = grind arith

pub taken_placed : (ws : List Window) (p : Point) → Below p (sizes ws) → taken_from ws (placed ws p) ≡ p
taken_placed [] p b = refl
taken_placed (w ∷ ws) [] b = absurd b
taken_placed (w ∷ ws) (i ∷ p) b =
    (let a : w.offset + i - w.offset ≡ i = omega arith in let c = taken_placed ws p b.1 in cc)

pub get_among : (d : ℕ) (ds : List ℕ) (ws : List Window) (p : Point) → inside (windows_at ds ws) (at ds p) ≡ true
    → Among d ds → has (get_or ws d no_window) (get_or p d 0) ≡ true
get_among d [] ws p h m = absurd m
get_among d (e ∷ ds) ws p h (inl m) =
    rw m (and_parts (has (get_or ws e no_window) (get_or p e 0)) (inside (windows_at ds ws) (at ds p)) h).0
get_among d (e ∷ ds) ws p h (inr m) =
    get_among d ds ws p
    (and_parts (has (get_or ws e no_window) (get_or p e 0)) (inside (windows_at ds ws) (at ds p)) h).1 m

pub inside_each : (ws : List Window) (p : Point) → length p ≡ length ws
    → ((d : ℕ) → d < length ws → has (get_or ws d no_window) (get_or p d 0) ≡ true) → inside ws p ≡ true
inside_each [] [] l h = refl
inside_each [] (i ∷ p) l h = cc
inside_each (w ∷ ws) [] l h = cc
inside_each (w ∷ ws) (i ∷ p) l h =
    (let a = h 0 (omega arith) in rw a (inside_each ws p (cc) (λ d k. h (suc d) (omega (arith, k)))))

pub get_below : (d : ℕ) (p es : List ℕ) → Below p es → d < length es → get_or p d 0 < get_or es d 0
get_below d [] [] b h = h-none h
  where
    h-none : {P : Type 0} → d < 0 → P
    h-none k = (let no : ⊥ = omega (arith, k) in absurd no)
get_below d [] (e ∷ es) b h = absurd b
get_below d (i ∷ p) [] b h = absurd b
get_below zero (i ∷ p) (e ∷ es) b h = b.0
get_below (suc d) (i ∷ p) (e ∷ es) b h = get_below d p es b.1 (omega (arith, h))

pub has_whole : (e i : ℕ) → i < e → has (record { offset = 0; size = e }) i ≡ true
has_whole e i h = grind arith

-- a window of the result is the result in the windows, reductions whole
pub window_is : {A : Type 0} (es out : List ℕ) (step : Step A) (ws : List Window) (x : Point → A) (j : Point)
    → Within ws es → ReductionsWhole out ws es → Below j (sizes (windows_at out ws))
    → cut (windows_at out ws) (result es out step x) j
    ≡ result (sizes ws) out (λ p. step (placed ws p)) (cut (windows_at out ws) x) j
window_is es out step ws x j h r b =
    let v = windows_at out ws in
    let i = placed v j in
    sym
    (result_in es out step ws i j (x i) h
    (λ p c.
    let l : length p ≡ length ws = below_length p (sizes ws) c ∙ sizes_length ws in
    let m : length (at out p) ≡ length v = length-picked 0 out p ∙ sym (length-picked no_window out ws) in
    sym (ap (λ q. same_point q i) (at_placed out ws p l) ∙ same_placed v (at out p) i m (inside_placed v j b)
    ∙ ap (same_point (at out p)) (taken_placed v j b)))
    ∙ folded_same (λ p. Below p es) (both (inside ws) (onto out i)) (both everywhere (onto out i)) step step
    (points es) (x i) (points_below es)
    (λ p c. all_in (inside ws p) (onto out i p)
    (λ e.
    let q : at out p ≡ i = same_point-true (at out p) i e in
    let n : inside v (at out p) ≡ true = ap (inside v) q ∙ inside_placed v j b in
    let k = within_length ws es h in
    inside_each ws p (below_length p es c ∙ sym k)
    (λ d f. dimension d p c n (subst (λ u. d < u) k f) (r d (subst (λ u. d < u) k f)))))
    (λ p a c e. refl))
  where
    all_in : (a b : Bool) → (b ≡ true → a ≡ true) → (a && b) ≡ b
    all_in true b k = refl
    all_in false true k = k refl
    all_in false false k = refl

    dimension : (d : ℕ) (p : Point) → Below p es → inside (windows_at out ws) (at out p) ≡ true → d < length es
        → Among d out ⊎ (get_or ws d no_window ≡ record { offset = 0; size = get_or es d 0 })
        → has (get_or ws d no_window) (get_or p d 0) ≡ true
    dimension d p c n f (inl m) = get_among d out ws p n m
    dimension d p c n f (inr m) = rw m (has_whole (get_or es d 0) (get_or p d 0) (get_below d p es c f))

-- ---- operands

pub reads_windowed : {A : Type 0} (ins : List (Operand A)) (ws : List Window) (p : Point) → length p ≡ length ws
    → reads (windowed ws ins) p ≡ reads ins (placed ws p)
reads_windowed [] ws p l = refl
reads_windowed (o ∷ ins) ws p l =
    let a = ap o.items (at_placed o.dims ws p l) in let b = reads_windowed ins ws p l in cc

pub result_same : {A : Type 0} (es out : List ℕ) (f g : Step A) (x : Point → A) (j : Point)
    → ((p : Point) (a : A) → Below p es → f p a ≡ g p a) → result es out f x j ≡ result es out g x j
result_same es out f g x j h =
    folded_same (λ p. Below p es) (both everywhere (onto out j)) (both everywhere (onto out j)) f g (points es) (x j)
    (points_below es) (λ p b. refl) (λ p a b e. h p a b)

pub step_in : {A : Type 0} (body : BodyOf A) (ins : List (Operand A)) (ws : List Window) (p : Point) (a : A)
    → Below p (sizes ws) → step_of (body_in ws body) (windowed ws ins) p a ≡ step_of body ins (placed ws p) a
step_in body ins ws p a b =
    ap (λ read. body (placed ws p) read a) (reads_windowed ins ws p (below_length p (sizes ws) b ∙ sizes_length ws))

-- the operation on windows of its operands
pub structured_in_is : {A : Type 0} (out : List ℕ) (body : BodyOf A) (ins : List (Operand A)) (ws : List Window)
    (x : Point → A) (j : Point)
    → structured_in ws out body ins x j
    ≡ result (sizes ws) out (λ p. step_of body ins (placed ws p)) (cut (windows_at out ws) x) j
structured_in_is out body ins ws x j =
    result_same (sizes ws) out (step_of (body_in ws body) (windowed ws ins)) (λ p. step_of body ins (placed ws p))
    (cut (windows_at out ws) x) j (λ p a b. step_in body ins ws p a b)

pub turn_of_operation : {A : Type 0} (out : List ℕ) (body : BodyOf A) (ins : List (Operand A))
    → tiled_turn out body ins ≡ turned out (step_of body ins)
turn_of_operation out body ins =
    same_functions _ _
    (λ ws. same_functions _ _
    (λ y. ap (λ (r : Point → _). pasted (windows_at out ws) r y)
    (same_functions _ _ (λ j. structured_in_is out body ins ws y j))))

-- ---- when the order is free

pub same_at : (ds : List ℕ) (p q : Point) (d : ℕ) → at ds p ≡ at ds q → Among d ds → get_or p d 0 ≡ get_or q d 0
same_at [] p q d h m = absurd m
same_at (e ∷ ds) p q d h (inl m) = (let a : get_or p e 0 ≡ get_or q e 0 = cc in rw m a)
same_at (e ∷ ds) p q d h (inr m) = same_at ds p q d (cc) m

-- without reductions: each out index has one point
pub parallel_free : {A : Type 0} (Fit : A → Type 0) (es out : List ℕ) (step : Step A) → AllParallel (length es) out
    → ((p : Point) (a : A) → Below p es → Fit a → Fit (step p a)) → OrderIsFree Fit es out step
parallel_free Fit es out step all fits = record {
  fits = fits;
  swaps = λ p q a b c one e f.
      let l = below_length p es b in
      let m = below_length q es c in
      absurd (one (ext_get_or 0 p q (l ∙ sym m) (λ d k. same_at out p q d e (all d (subst (λ n. d < n) l k)))));
}

-- with reductions: a combiner joins what each point brings
pub joining_free : {A : Type 0} (Fit : A → Type 0) (c : A → A → A) (es out : List ℕ) (e : Point → A) (step : Step A)
    → Joins Fit c → ((p : Point) → Below p es → Fit (e p))
    → ((p : Point) (a : A) → Below p es → Fit a → step p a ≡ c a (e p)) → OrderIsFree Fit es out step
joining_free Fit c es out e step join fits is = record {
  fits = λ p a b f. subst Fit (sym (is p a b f)) (join.fits a (e p) f (fits p b));
  swaps = λ p q a b d one same f.
      let fq : Fit (c a (e q)) = join.fits a (e q) f (fits q d) in
      let fp : Fit (c a (e p)) = join.fits a (e p) f (fits p b) in
      ap (step p) (is q a d f)
      ∙ is p (c a (e q)) b fq
      ∙ join.associates a (e q) (e p) f (fits q d) (fits p b)
      ∙ ap (c a) (join.commutes (e q) (e p) (fits q d) (fits p b))
      ∙ sym (join.associates a (e p) (e q) f (fits p b) (fits q d))
      ∙ sym (is q (c a (e p)) d fp)
      ∙ sym (ap (step q) (is p a b f));
}

-- the same where what is brought is known of each point below the extents
pub joining_each : {A : Type 0} (Fit : A → Type 0) (c : A → A → A) (es out : List ℕ) (step : Step A) → Joins Fit c
    → ((p : Point) → Below p es → (e : A) × (Fit e × ((a : A) → Fit a → step p a ≡ c a e)))
    → OrderIsFree Fit es out step
joining_each Fit c es out step join each = record {
  fits = λ p a b f. let k = each p b in subst Fit (sym (k.1.1 a f)) (join.fits a k.0 f k.1.0);
  swaps = λ p q a b d one same f.
      let k = each p b in
      let l = each q d in
      let fq : Fit (c a l.0) = join.fits a l.0 f l.1.0 in
      let fp : Fit (c a k.0) = join.fits a k.0 f k.1.0 in
      ap (step p) (l.1.1 a f)
      ∙ k.1.1 (c a l.0) fq
      ∙ join.associates a l.0 k.0 f l.1.0 k.1.0
      ∙ ap (c a) (join.commutes l.0 k.0 l.1.0 k.1.0)
      ∙ sym (join.associates a k.0 l.0 f k.1.0 l.1.0)
      ∙ sym (l.1.1 (c a k.0) fp)
      ∙ sym (ap (step q) (k.1.1 a f));
}
