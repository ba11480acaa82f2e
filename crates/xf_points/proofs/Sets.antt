-- Sets of points, and what they do in turn.
use Rattle.std.proofs.Common.{◌≡◌, ℕ, zero, suc, ◌+◌, ◌≤◌, List, [], ◌∷◌, ◌++◌, Bool, true, false, refl, sym, ap, ◌∙◌}
use Rattle.std.proofs.Common.{arith}
use Rattle.std.specs.Prelude.{map, flat_map, ◌||◌, if◌then◌else◌}
use Rattle.xf_points.specs.Points.{Point, Each, Below, counted, points}
use Rattle.xf_points.specs.Folds.{Points, Step, either, folded}

-- ---- functions that agree everywhere are equal

pub same_functions : {A B : Type 0} (f g : A → B) → ((x : A) → f x ≡ g x) → f ≡ g
same_functions f g h = λ i x. h x i

-- ---- tests

pub when : {A : Type 0} (b : Bool) (P : A → Type 0) (x y : A) → (b ≡ true → P x) → (b ≡ false → P y)
    → P (if b then x else y)
when true P x y f g = f refl
when false P x y f g = g refl

-- ---- each point

pub each-append : {A : Type 0} (P : A → Type 0) (xs ys : List A) → Each P xs → Each P ys → Each P (xs ++ ys)
each-append P [] ys h k = k
each-append P (x ∷ xs) ys h k = (h.0, each-append P xs ys h.1 k)

pub each-map : {A B : Type 0} (P : A → Type 0) (Q : B → Type 0) (f : A → B) (xs : List A) → ((x : A) → P x → Q (f x))
    → Each P xs → Each Q (map f xs)
each-map P Q f [] h e = tt
each-map P Q f (x ∷ xs) h e = (h x e.0, each-map P Q f xs h e.1)

rows_below : (e : ℕ) (es : List ℕ) (ps : List Point) (n k : ℕ) → k + n ≤ e → Each (λ p. Below p es) ps
    → Each (λ p. Below p (e ∷ es)) (flat_map (λ i. map (λ p. i ∷ p) ps) (counted k n))
rows_below e es ps zero k h q = tt
rows_below e es ps (suc n) k h q =
    each-append (λ p. Below p (e ∷ es)) (map (λ p. k ∷ p) ps) _
    (each-map (λ p. Below p es) (λ p. Below p (e ∷ es)) (λ p. k ∷ p) ps (λ p b. (omega arith, b)) q)
    (rows_below e es ps n (k + 1) (omega arith) q)

pub points_below : (es : List ℕ) → Each (λ p. Below p es) (points es)
points_below [] = (tt, tt)
points_below (e ∷ es) = rows_below e es (points es) e 0 (omega arith) (points_below es)

-- ---- folds that agree

-- the same points of the list belong to both sets, and do the same
pub folded_same : {A : Type 0} (P : Point → Type 0) (s t : Points) (f g : Step A) (ps : List Point) (x : A)
    → Each P ps → ((p : Point) → P p → s p ≡ t p) → ((p : Point) (a : A) → P p → s p ≡ true → f p a ≡ g p a)
    → folded s f ps x ≡ folded t g ps x
folded_same P s t f g [] x q h k = refl
folded_same P s t f g (p ∷ ps) x q h k =
    ap (folded s f ps) (one (s p) (t p) (h p q.0) (k p x q.0)) ∙ folded_same P s t f g ps _ q.1 h k
  where
    one : (b c : Bool) → b ≡ c → (b ≡ true → f p x ≡ g p x) → (if b then f p x else x) ≡ (if c then g p x else x)
    one true c e m = rw (← e) (m refl)
    one false c e m = rw (← e) refl

-- what is an element of its width stays one
pub folded_fits : {A : Type 0} (P : Point → Type 0) (Fit : A → Type 0) (s : Points) (f : Step A) (ps : List Point)
    (x : A)
    → Each P ps → ((p : Point) (a : A) → P p → Fit a → Fit (f p a)) → Fit x → Fit (folded s f ps x)
folded_fits P Fit s f [] x q h k = k
folded_fits P Fit s f (p ∷ ps) x q h k =
    folded_fits P Fit s f ps _ q.1 h (when (s p) Fit (f p x) x (λ e. h p x q.0 k) (λ e. k))

-- ---- two sets without common points, one after the other

module _ {A : Type 0} (P : Point → Type 0) (Fit : A → Type 0) (s t : Points) (f : Step A)
    (fits : (p : Point) (a : A) → P p → Fit a → Fit (f p a))
    (swaps : (p q : Point) (a : A) → P p → P q → t p ≡ true → s q ≡ true → Fit a → f p (f q a) ≡ f q (f p a)) where
  -- what a point of t does may come before all that those of s do
  passes : (p : Point) (ps : List Point) (x : A) → P p → t p ≡ true → Each P ps → Fit x → folded s f ps (f p x)
      ≡ f p (folded s f ps x)
  passes p [] x b e q h = refl
  passes p (r ∷ ps) x b e q h =
      ap (folded s f ps) (one (s r) (λ c. sym (swaps p r x b q.0 e c h)))
      ∙ passes p ps _ b e q.1 (when (s r) Fit (f r x) x (λ c. fits r x q.0 h) (λ c. h))
    where
      one : (c : Bool) → (c ≡ true → f r (f p x) ≡ f p (f r x)) → (if c then f r (f p x) else f p x)
          ≡ f p (if c then f r x else x)
      one true m = m refl
      one false m = refl

  pub folded_either : (ps : List Point) (x : A) → ((p : Point) → s p ≡ true → t p ≡ false) → Each P ps → Fit x
      → folded (either s t) f ps x ≡ folded t f ps (folded s f ps x)
  folded_either [] x a q h = refl
  folded_either (p ∷ ps) x a q h = cases (λ y k. folded_either ps y a q.1 k) (s p) (t p) refl refl
    where
      cases : ((y : A) → Fit y → folded (either s t) f ps y ≡ folded t f ps (folded s f ps y)) → (b c : Bool) → s p
          ≡ b → t p ≡ c → folded (either s t) f ps (if b || c then f p x else x)
          ≡ folded t f ps
          (if c then f p (folded s f ps (if b then f p x else x)) else folded s f ps (if b then f p x else x))
      cases ih true true u v = (let no = a p u in cc)
      cases ih true false u v = ih (f p x) (fits p x q.0 h)
      cases ih false true u v = ih (f p x) (fits p x q.0 h) ∙ ap (folded t f ps) (passes p ps x q.0 v q.1 h)
      cases ih false false u v = ih x h
