-- Indices, one number more.
use Rattle.std.proofs.Common.{◌≡◌, ◌≢◌, ℕ, suc, ◌+◌, ◌<◌, ◌≤◌, List, [], ◌∷◌, ◌++◌, Bool, true, false, Option, Some, None}
use Rattle.std.proofs.Common.{length, get_or, drop, refl, sym, ap, ◌∙◌, append_assoc}
use Rattle.std.proofs.lemmas.List.{drop_more, drop_all, append-nil}
use Rattle.std.proofs.lemmas.Bool.{lt-ltb, le-ltb}
use Rattle.std.specs.Prelude.{nat_lt, if◌then◌else◌, ◌&&◌}
use Rattle.xf_type.specs.declared.payload_type.Width.TheVariants.{Index}
use Rattle.xf_type.specs.declared.payload_type.Elem.TheVariants.{Num, NoNumber}
use Rattle.xf_type.specs.Equal.{same_width}
use Rattle.xf_points.specs.Points.{Point}
use Rattle.xf_sem.specs.declared.value.Value.{Value}
use Rattle.xf_sem.specs.declared.value.Value.TheVariants.{Scalar, Tensor}
use Rattle.xf_sem.specs.Tensors.{on_some, only_if, before_all, index_of, indices_of, is_in}
use Rattle.xf_eval_values.specs.Held.{elem_of}
use Rattle.xf_eval_tensors.specs.Indices.{all_before, point_in}

-- ---- one index

pub index_num : (v : Value) (n : ℕ) → Some (Num n) ≡ elem_of Index v → index_of v ≡ Some n
index_num (Scalar w (Num m)) n h = by (same_width w Index) h
  where
    by : (b : Bool) → Some (Num n) ≡ (if b then Some (Num m) else None) → only_if b m ≡ Some n
    by true h = let q : m ≡ n = cc in ap Some q
    by false h = cc
index_num (Scalar w NoNumber) n h = by (same_width w Index) h
  where
    by : (b : Bool) → Some (Num n) ≡ (if b then Some NoNumber else None) → None ≡ Some n
    by true h = cc
    by false h = cc
index_num (Tensor w sh es) n h = cc

pub index_no_number : (v : Value) → Some NoNumber ≡ elem_of Index v → index_of v ≡ None
index_no_number (Scalar w (Num m)) h = by (same_width w Index) h
  where
    by : (b : Bool) → Some NoNumber ≡ (if b then Some (Num m) else None) → only_if b m ≡ None
    by true h = cc
    by false h = cc
index_no_number (Scalar w NoNumber) h = refl
index_no_number (Tensor w sh es) h = cc

pub index_none : (v : Value) → None ≡ elem_of Index v → index_of v ≡ None
index_none (Scalar w (Num m)) h = by (same_width w Index) h
  where
    by : (b : Bool) → None ≡ (if b then Some (Num m) else None) → only_if b m ≡ None
    by true h = cc
    by false h = refl
index_none (Scalar w NoNumber) h = refl
index_none (Tensor w sh es) h = refl

-- ---- all of them

pub before_more : (xs : List ℕ) (x : ℕ) (o : Option (List ℕ))
    → all_before (xs ++ x ∷ []) o ≡ all_before xs (before_all x o)
before_more xs x None = refl
before_more xs x (Some ys) = ap Some (append_assoc xs (x ∷ []) ys)

pub before_start : (o : Option (List ℕ)) → all_before [] o ≡ o
before_start None = refl
before_start (Some ys) = refl

indices_step : (vs : List Value) (i : ℕ) (v : Value) → i < length vs → v ≡ get_or vs i v
    → indices_of (drop i vs) ≡ on_some (index_of v) (λ n. before_all n (indices_of (drop (i + 1) vs)))
indices_step vs i v h e =
    ap indices_of (drop_more vs i v h)
    ∙ ap (λ x. on_some (index_of x) (λ n. before_all n (indices_of (drop (i + 1) vs)))) (sym e)

pub indices_stop : (xs : List ℕ) (vs : List Value) (i : ℕ) (v : Value) → i < length vs → v ≡ get_or vs i v
    → index_of v ≡ None → all_before xs (indices_of (drop i vs)) ≡ None
indices_stop xs vs i v h e n =
    ap (all_before xs) (indices_step vs i v h e
    ∙ ap (λ o. on_some o (λ n. before_all n (indices_of (drop (i + 1) vs)))) n)

pub indices_more : (xs ys : List ℕ) (vs : List Value) (i : ℕ) (v : Value) (n : ℕ) → i < length vs
    → v ≡ get_or vs i v → index_of v ≡ Some n → ys ≡ xs ++ n ∷ []
    → all_before ys (indices_of (drop (i + 1) vs)) ≡ all_before xs (indices_of (drop i vs))
indices_more xs ys vs i v n h e s p =
    ap (λ z. all_before z (indices_of (drop (i + 1) vs))) p ∙ before_more xs n (indices_of (drop (i + 1) vs))
    ∙ ap (all_before xs) (sym (indices_step vs i v h e
    ∙ ap (λ o. on_some o (λ n. before_all n (indices_of (drop (i + 1) vs)))) s))

pub indices_end : (xs : List ℕ) (vs : List Value) (i : ℕ) → length vs ≤ i
    → all_before xs (indices_of (drop i vs)) ≡ Some xs
indices_end xs vs i h = ap (λ us. all_before xs (indices_of us)) (drop_all i vs h) ∙ ap Some (append-nil xs)

-- ---- an index in a shape

only_before : (b c : Bool) (n : ℕ) (p : Point)
    → only_if (b && c) (n ∷ p) ≡ (if b then before_all n (only_if c p) else None)
only_before true true n p = refl
only_before true false n p = refl
only_before false c n p = refl

none_before : (b : Bool) (n : ℕ) → None ≡ (if b then before_all n None else None)
none_before true n = refl
none_before false n = refl

pub point_is : (shape : List ℕ) (vs : List Value)
    → on_some (indices_of vs) (λ p. only_if (is_in p shape) p) ≡ point_in shape vs
point_is [] [] = refl
point_is [] (v ∷ vs) = by (index_of v) (indices_of vs)
  where
    by : (o : Option ℕ) (q : Option (List ℕ)) → on_some (on_some o (λ n. before_all n q)) (λ p. only_if (is_in p []) p) ≡ None
    by None q = refl
    by (Some n) None = refl
    by (Some n) (Some ns) = refl
point_is (size ∷ shape) [] = refl
point_is (size ∷ shape) (v ∷ vs) = by (index_of v) (indices_of vs) (point_is shape vs)
  where
    by : (o : Option ℕ) (q : Option (List ℕ)) → on_some q (λ p. only_if (is_in p shape) p) ≡ point_in shape vs
        → on_some (on_some o (λ n. before_all n q)) (λ p. only_if (is_in p (size ∷ shape)) p)
        ≡ on_some o (λ n. if nat_lt n size then before_all n (point_in shape vs) else None)
    by None q h = refl
    by (Some n) None h = none_before (nat_lt n size) n ∙ ap (λ o. if nat_lt n size then before_all n o else None) h
    by (Some n) (Some ns) h =
        only_before (nat_lt n size) (is_in ns shape) n ns
        ∙ ap (λ o. if nat_lt n size then before_all n o else None) h

point_step : (shape : List ℕ) (vs : List Value) (i : ℕ) (v : Value) → i < length shape → i < length vs
    → v ≡ get_or vs i v
    → point_in (drop i shape) (drop i vs)
    ≡ on_some (index_of v)
    (λ n. if nat_lt n (get_or shape i 0) then before_all n (point_in (drop (i + 1) shape) (drop (i + 1) vs)) else None)
point_step shape vs i v h k e =
    ap (λ us. point_in us (drop i vs)) (drop_more shape i 0 h)
    ∙ ap (point_in (get_or shape i 0 ∷ drop (i + 1) shape)) (drop_more vs i v k)
    ∙ ap (λ x. on_some (index_of x) (λ n. if nat_lt n (get_or shape i 0)
    then before_all n (point_in (drop (i + 1) shape) (drop (i + 1) vs)) else None)) (sym e)

pub point_stop : (xs shape : List ℕ) (vs : List Value) (i : ℕ) (v : Value) → i < length shape → i < length vs
    → v ≡ get_or vs i v → index_of v ≡ None → all_before xs (point_in (drop i shape) (drop i vs)) ≡ None
point_stop xs shape vs i v h k e n =
    ap (all_before xs) (point_step shape vs i v h k e
    ∙ ap (λ o. on_some o (λ n. if nat_lt n (get_or shape i 0)
    then before_all n (point_in (drop (i + 1) shape) (drop (i + 1) vs)) else None)) n)

pub point_out : (xs shape : List ℕ) (vs : List Value) (i : ℕ) (v : Value) (n : ℕ) → i < length shape → i < length vs
    → v ≡ get_or vs i v → index_of v ≡ Some n → get_or shape i 0 ≤ n
    → all_before xs (point_in (drop i shape) (drop i vs)) ≡ None
point_out xs shape vs i v n h k e s l =
    ap (all_before xs) (point_step shape vs i v h k e
    ∙ ap (λ o. on_some o (λ n. if nat_lt n (get_or shape i 0)
    then before_all n (point_in (drop (i + 1) shape) (drop (i + 1) vs)) else None)) s
    ∙ ap (λ b. if b then before_all n (point_in (drop (i + 1) shape) (drop (i + 1) vs)) else None)
    (le-ltb n (get_or shape i 0) l))

pub point_more : (xs ys shape : List ℕ) (vs : List Value) (i : ℕ) (v : Value) (n : ℕ) → i < length shape
    → i < length vs → v ≡ get_or vs i v → index_of v ≡ Some n → n < get_or shape i 0 → ys ≡ xs ++ n ∷ []
    → all_before ys (point_in (drop (i + 1) shape) (drop (i + 1) vs))
    ≡ all_before xs (point_in (drop i shape) (drop i vs))
point_more xs ys shape vs i v n h k e s l p =
    ap (λ z. all_before z (point_in (drop (i + 1) shape) (drop (i + 1) vs))) p
    ∙ before_more xs n (point_in (drop (i + 1) shape) (drop (i + 1) vs))
    ∙ ap (all_before xs) (sym (point_step shape vs i v h k e
    ∙ ap (λ o. on_some o (λ n. if nat_lt n (get_or shape i 0)
    then before_all n (point_in (drop (i + 1) shape) (drop (i + 1) vs)) else None)) s
    ∙ ap (λ b. if b then before_all n (point_in (drop (i + 1) shape) (drop (i + 1) vs)) else None)
    (lt-ltb n (get_or shape i 0) l)))

pub point_end : (xs shape : List ℕ) (vs : List Value) (i : ℕ) → length shape ≤ i → length vs ≤ i
    → all_before xs (point_in (drop i shape) (drop i vs)) ≡ Some xs
point_end xs shape vs i h k =
    ap (λ us. all_before xs (point_in us (drop i vs))) (drop_all i shape h)
    ∙ ap (λ us. all_before xs (point_in [] us)) (drop_all i vs k) ∙ ap Some (append-nil xs)

none_if : (b : Bool) (n : ℕ) (o : Option (List ℕ)) → o ≡ None → None ≡ (if b then before_all n o else None)
none_if true n o h = ap (before_all n) (sym h)
none_if false n o h = refl

pub point_lengths : (shape : List ℕ) (vs : List Value) → length shape ≢ length vs → point_in shape vs ≡ None
point_lengths [] [] h = absurd (h refl)
point_lengths [] (v ∷ vs) h = refl
point_lengths (size ∷ shape) [] h = refl
point_lengths (size ∷ shape) (v ∷ vs) h = by (index_of v) (point_lengths shape vs (λ e. h (ap suc e)))
  where
    by : (o : Option ℕ) → point_in shape vs ≡ None
        → on_some o (λ n. if nat_lt n size then before_all n (point_in shape vs) else None) ≡ None
    by None q = refl
    by (Some n) q = sym (none_if (nat_lt n size) n (point_in shape vs) q)
