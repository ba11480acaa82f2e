-- Points: their lists, cut by windows.
use Rattle.std.proofs.Common.{◌≡◌, ℕ, zero, suc, ◌+◌, ◌-◌, ◌<◌, ◌≤◌, List, [], ◌∷◌, ◌++◌, Bool, true, false, refl, sym}
use Rattle.std.proofs.Common.{ap, ◌∙◌, arith}
use Rattle.std.specs.Prelude.{map, flat_map, ◌&&◌, nat_le}
use Rattle.std.proofs.lemmas.Bool.{lt-ltb, le-ltb, le-leb, lt-leb}
use Rattle.xf_points.specs.Points.{Point, counted, points}
use Rattle.xf_points.specs.Folds.{Points, Step, both, folded}
use Rattle.xf_points.specs.Windows.{Window, Within, has, inside, placed, sizes}

-- ---- numbers

pub counted_split : (from n m : ℕ) → counted from (n + m) ≡ counted from n ++ counted (from + n) m
counted_split from zero m = rw (zero_add m, add_zero from) refl
  where
    zero_add : (m : ℕ) → zero + m ≡ m
    zero_add m = omega arith

    add_zero : (n : ℕ) → n + zero ≡ n
    add_zero n = omega arith
counted_split from (suc n) m =
    let a : suc n + m ≡ suc (n + m) = omega arith in
    let b : from + suc n ≡ from + 1 + n = omega arith in
    rw (a, b) (ap (λ xs. from ∷ xs) (counted_split (from + 1) n m))

pub counted_from : (o from n : ℕ) → counted (o + from) n ≡ map (λ i. o + i) (counted from n)
counted_from o from zero = refl
counted_from o from (suc n) =
    let a : o + from + 1 ≡ o + (from + 1) = omega arith in
    ap (λ xs. (o + from) ∷ xs) (rw a (counted_from o (from + 1) n))

-- ---- folds

pub folded-append : {A : Type 0} (s : Points) (step : Step A) (ps qs : List Point) (x : A)
    → folded s step (ps ++ qs) x ≡ folded s step qs (folded s step ps x)
folded-append s step [] qs x = refl
folded-append s step (p ∷ ps) qs x = folded-append s step ps qs _

pub folded-map : {A : Type 0} (s : Points) (step : Step A) (f : Point → Point) (ps : List Point) (x : A)
    → folded s step (map f ps) x ≡ folded (λ p. s (f p)) (λ p. step (f p)) ps x
folded-map s step f [] x = refl
folded-map s step f (p ∷ ps) x = folded-map s step f ps _

-- no point of the list belongs to the set
pub folded_none : {A : Type 0} (s : Points) (step : Step A) (ps : List Point) (x : A) → ((p : Point) → s p ≡ false)
    → folded s step ps x ≡ x
folded_none s step [] x h = refl
folded_none s step (p ∷ ps) x h = rw (h p) (folded_none s step ps x h)

-- ---- rows: points with one more coordinate

-- what rows of points do, one row for each number
rows : {A : Type 0} → Points → Step A → List Point → List ℕ → A → A
rows s step ps [] x = x
rows s step ps (i ∷ is) x = rows s step ps is (folded (λ p. s (i ∷ p)) (λ p. step (i ∷ p)) ps x)

folded_rows : {A : Type 0} (s : Points) (step : Step A) (ps : List Point) (is : List ℕ) (x : A)
    → folded s step (flat_map (λ i. map (λ p. i ∷ p) ps) is) x ≡ rows s step ps is x
unfolding rows
folded_rows s step ps [] x = refl
folded_rows s step ps (i ∷ is) x =
    folded-append s step (map (λ p. i ∷ p) ps) (flat_map (λ i. map (λ p. i ∷ p) ps) is) x
    ∙ folded_rows s step ps is _
    ∙ ap (rows s step ps is) (folded-map s step (λ p. i ∷ p) ps x)

rows-append : {A : Type 0} (s : Points) (step : Step A) (ps : List Point) (is js : List ℕ) (x : A)
    → rows s step ps (is ++ js) x ≡ rows s step ps js (rows s step ps is x)
unfolding rows
rows-append s step ps [] js x = refl
rows-append s step ps (i ∷ is) js x = rows-append s step ps is js _

has_before : (w : Window) (i : ℕ) → i < w.offset → has w i ≡ false
has_before w i h = rw (lt-leb w.offset i h) refl

has_after : (w : Window) (i : ℕ) → w.offset + w.size ≤ i → has w i ≡ false
has_after w i h = rw (le-ltb i (w.offset + w.size) h) (and_false (nat_le w.offset i))
  where
    and_false : (b : Bool) → (b && false) ≡ false
    and_false true = refl
    and_false false = refl

has_at : (w : Window) (k : ℕ) → k < w.size → has w (w.offset + k) ≡ true
has_at w k h =
    let a : w.offset ≤ w.offset + k = omega arith in
    let b : w.offset + k < w.offset + w.size = omega arith in
    rw (le-leb w.offset (w.offset + k) a, lt-ltb (w.offset + k) (w.offset + w.size) b) refl

-- a row outside the windows
row_out : {A : Type 0} (w : Window) (ws : List Window) (s : Points) (step : Step A) (ps : List Point) (i : ℕ) (x : A)
    → has w i ≡ false
    → folded (λ p. (has w i && inside ws p) && s (i ∷ p)) (λ p. step (i ∷ p)) ps x ≡ x
row_out w ws s step ps i x h =
    ap (λ b. folded (λ p. (b && inside ws p) && s (i ∷ p)) (λ p. step (i ∷ p)) ps x) h
    ∙ folded_none (λ p. false) (λ p. step (i ∷ p)) ps x (λ p. refl)

rows_before : {A : Type 0} (w : Window) (ws : List Window) (s : Points) (step : Step A) (ps : List Point) (n k : ℕ)
    (x : A) → k + n ≤ w.offset
    → rows (both (inside (w ∷ ws)) s) step ps (counted k n) x ≡ x
unfolding rows
rows_before w ws s step ps zero k x h = refl
rows_before w ws s step ps (suc n) k x h =
    ap (rows (both (inside (w ∷ ws)) s) step ps (counted (k + 1) n))
    (row_out w ws s step ps k x (has_before w k (omega arith)))
    ∙ rows_before w ws s step ps n (k + 1) x (omega arith)

rows_after : {A : Type 0} (w : Window) (ws : List Window) (s : Points) (step : Step A) (ps : List Point) (n k : ℕ)
    (x : A) → w.offset + w.size ≤ k
    → rows (both (inside (w ∷ ws)) s) step ps (counted k n) x ≡ x
unfolding rows
rows_after w ws s step ps zero k x h = refl
rows_after w ws s step ps (suc n) k x h =
    ap (rows (both (inside (w ∷ ws)) s) step ps (counted (k + 1) n)) (row_out w ws s step ps k x (has_after w k h))
    ∙ rows_after w ws s step ps n (k + 1) x (omega arith)

-- the points of a window, as points of the whole: the same in the same order
rows_within : {A : Type 0} (w : Window) (ws : List Window) (s : Points) (step : Step A) (ps qs : List Point)
    → ((t : Points) (f : Step A) (y : A) → folded (both (inside ws) t) f ps y
    ≡ folded (λ p. t (placed ws p)) (λ p. f (placed ws p)) qs y)
    → (n k : ℕ) (x : A) → k + n ≤ w.size
    → rows (both (inside (w ∷ ws)) s) step ps (counted (w.offset + k) n) x
    ≡ rows (λ p. s (placed (w ∷ ws) p)) (λ p. step (placed (w ∷ ws) p)) qs (counted k n) x
unfolding rows
rows_within w ws s step ps qs ih zero k x h = refl
rows_within w ws s step ps qs ih (suc n) k x h =
    let e : w.offset + k + 1 ≡ w.offset + (k + 1) = omega arith in
    rw e
    (ap (rows (both (inside (w ∷ ws)) s) step ps (counted (w.offset + (k + 1)) n))
    (ap (λ b. folded (λ p. (b && inside ws p) && s ((w.offset + k) ∷ p)) (λ p. step ((w.offset + k) ∷ p)) ps x)
    (has_at w k (omega arith))
    ∙ ih (λ p. s ((w.offset + k) ∷ p)) (λ p. step ((w.offset + k) ∷ p)) x)
    ∙ rows_within w ws s step ps qs ih n (k + 1) _ (omega arith))

pub points_within : {A : Type 0} (es : List ℕ) (ws : List Window) (s : Points) (step : Step A) (x : A) → Within ws es
    → folded (both (inside ws) s) step (points es) x
    ≡ folded (λ p. s (placed ws p)) (λ p. step (placed ws p)) (points (sizes ws)) x
points_within [] [] s step x h = refl
points_within [] (w ∷ ws) s step x h = absurd h
points_within (e ∷ es) [] s step x h = absurd h
points_within (e ∷ es) (w ∷ ws) s step x h =
    let o = w.offset in
    let z = w.size in
    let r = e - (o + z) in
    let t = both (inside (w ∷ ws)) s in
    let ps = points es in
    let split : counted 0 e ≡ counted 0 o ++ (counted o z ++ counted (o + z) r) =
    (let a : e ≡ o + (z + r) = omega arith in
    let b : 0 + o ≡ o = omega arith in
    ap (counted 0) a ∙ counted_split 0 o (z + r) ∙ (rw b (ap (λ xs. counted 0 o ++ xs) (counted_split o z r)))) in
    let start : counted (o + 0) z ≡ counted o z = (let a : o + 0 ≡ o = omega arith in ap (λ n. counted n z) a) in
    folded_rows t step ps (counted 0 e) x
    ∙ ap (λ is. rows t step ps is x) split
    ∙ rows-append t step ps (counted 0 o) (counted o z ++ counted (o + z) r) x
    ∙ ap (rows t step ps (counted o z ++ counted (o + z) r)) (rows_before w ws s step ps o 0 x (omega arith))
    ∙ rows-append t step ps (counted o z) (counted (o + z) r) x
    ∙ rows_after w ws s step ps r (o + z) _ (omega arith)
    ∙ ap (λ is. rows t step ps is x) (sym start)
    ∙ rows_within w ws s step ps (points (sizes ws)) (λ t f y. points_within es ws t f y h.1) z 0 x (omega arith)
    ∙ sym (folded_rows (λ p. s (placed (w ∷ ws) p)) (λ p. step (placed (w ∷ ws) p)) (points (sizes ws))
    (counted 0 z) x)
