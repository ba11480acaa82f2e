-- Lists of names, parts of lists, and tests.
use Rattle.std.proofs.Common.{◌≡◌, ℕ, List, [], ◌∷◌, ◌++◌, Option, None, Some, Bool, true, false, eqb, inl, inr, refl}
use Rattle.std.proofs.Common.{ap, subst}
use Rattle.std.specs.Prelude.{if◌then◌else◌}
use Rattle.std.proofs.lemmas.Bool.{cases_Bool, eqb-true, eq-eqb, or_from, or_parts}
use Rattle.xf_ir.specs.declared.name.OpName.{OpName}
use Rattle.xf_ir.specs.Lists.{Each, same_name, is_among, Once, same_bytes, is_text_among, TextsOnce, item_before}

-- ---- tests

-- what holds of both branches holds of the choice
pub at_cases : {A : Type 0} (b : Bool) (x y : A) (P : A → Type 0) → (b ≡ true → P x) → (b ≡ false → P y)
    → P (if b then x else y)
at_cases true x y P h k = h refl
at_cases false x y P h k = k refl

pub name_is : (m n : OpName) → eqb m.0 n.0 ≡ true → m ≡ n
name_is m n h = ap (λ z. let r : OpName = record { 0 = z } in r) (eqb-true m.0 n.0 h)

pub own_name : (m : OpName) → eqb m.0 m.0 ≡ true
own_name m = eq-eqb m.0 m.0 refl

pub other_way : (m n : OpName) → eqb m.0 n.0 ≡ false → eqb n.0 m.0 ≡ false
other_way m n h =
    elim (cases_Bool (eqb n.0 m.0)) [ inl t ↦ (let e = name_is n m t in let o = own_name m in cc) | inr f ↦ f ]

-- ---- names among others

pub not_left : (n : OpName) (xs ys : List OpName) → is_among n (xs ++ ys) ≡ false → is_among n xs ≡ false
not_left n [] ys h = refl
not_left n (x ∷ xs) ys h =
    let p = or_parts (same_name x n) (is_among n (xs ++ ys)) h in
    or_from (same_name x n) (is_among n xs) p.0 (not_left n xs ys p.1)

pub not_right : (n : OpName) (xs ys : List OpName) → is_among n (xs ++ ys) ≡ false → is_among n ys ≡ false
not_right n [] ys h = h
not_right n (x ∷ xs) ys h = not_right n xs ys (or_parts (same_name x n) (is_among n (xs ++ ys)) h).1

pub not_both : (n : OpName) (xs ys : List OpName) → is_among n xs ≡ false → is_among n ys ≡ false
    → is_among n (xs ++ ys) ≡ false
not_both n [] ys h k = k
not_both n (x ∷ xs) ys h k =
    let p = or_parts (same_name x n) (is_among n xs) h in
    or_from (same_name x n) (is_among n (xs ++ ys)) p.0 (not_both n xs ys p.1 k)

pub once_left : (xs ys : List OpName) → Once (xs ++ ys) → Once xs
once_left [] ys h = tt
once_left (x ∷ xs) ys h = (not_left x xs ys h.0, once_left xs ys h.1)

pub once_right : (xs ys : List OpName) → Once (xs ++ ys) → Once ys
once_right [] ys h = h
once_right (x ∷ xs) ys h = once_right xs ys h.1

-- a name of the first part is not in the second
pub once_apart : (n : OpName) (xs ys : List OpName) → Once (xs ++ ys) → is_among n xs ≡ true → is_among n ys ≡ false
once_apart n [] ys h k = absurd (cc)
once_apart n (x ∷ xs) ys h k =
    elim (cases_Bool (same_name x n)) [
      | inl t ↦ subst (λ m. is_among m ys ≡ false) (name_is x n t) (not_right x xs ys h.0)
      | inr f ↦ once_apart n xs ys h.1 (rw f at k)
    ]

pub among_left : (n : OpName) (xs ys : List OpName) → is_among n xs ≡ true → is_among n (xs ++ ys) ≡ true
among_left n [] ys h = absurd (cc)
among_left n (x ∷ xs) ys h =
    elim (cases_Bool (same_name x n)) [
      | inl t ↦ rw t refl
      | inr f ↦ (let m = among_left n xs ys (rw f at h) in rw (f, m) refl)
    ]

pub among_right : (n : OpName) (xs ys : List OpName) → is_among n ys ≡ true → is_among n (xs ++ ys) ≡ true
among_right n [] ys h = h
among_right n (x ∷ xs) ys h =
    elim (cases_Bool (same_name x n)) [ inl t ↦ rw t refl | inr f ↦ (let m = among_right n xs ys h in rw (f, m) refl) ]

-- a name of the second part is not in the first
pub absent_before : (n : OpName) (xs ys : List OpName) → Once (xs ++ ys) → is_among n ys ≡ true → is_among n xs ≡ false
absent_before n xs ys o h =
    elim (cases_Bool (is_among n xs)) [ inl t ↦ (let z = once_apart n xs ys o t in absurd (cc)) | inr f ↦ f ]

-- a name that is not among others is another than one of them
pub apart_names : (m n : OpName) (xs : List OpName) → is_among m xs ≡ true → is_among n xs ≡ false → eqb n.0 m.0 ≡ false
apart_names m n xs h k = elim (cases_Bool (eqb n.0 m.0)) [
  | inl t ↦
      (let z = subst (λ x. is_among x xs ≡ false) (name_is n m t) k in absurd (cc))
  | inr f ↦ f
]

-- ---- parts of lists

-- the first list has some items of the second, in their order
pub data Part {A : Type 0} : List A → List A → Type 0 where
  none : Part [] []
  skip : {x : A} {xs ys : List A} → Part ys xs → Part ys (x ∷ xs)
  keep : {x : A} {xs ys : List A} → Part ys xs → Part (x ∷ ys) (x ∷ xs)

pub part_all : {A : Type 0} (xs : List A) → Part xs xs
part_all [] = none
part_all (x ∷ xs) = keep (part_all xs)

pub part_none : {A : Type 0} (xs : List A) → Part [] xs
part_none [] = none
part_none (x ∷ xs) = skip (part_none xs)

pub part_append : {A : Type 0} {us vs xs ys : List A} → Part us xs → Part vs ys → Part (us ++ vs) (xs ++ ys)
part_append none q = q
part_append (skip p) q = skip (part_append p q)
part_append (keep p) q = keep (part_append p q)

-- a part stays one behind an item, and together with it
pub item_skip : {A : Type 0} {xs ys : List A} (o : Option A) → Part ys xs → Part ys (item_before o xs)
item_skip None p = p
item_skip (Some x) p = skip p

pub item_keep : {A : Type 0} {xs ys : List A} (o : Option A) → Part ys xs → Part (item_before o ys) (item_before o xs)
item_keep None p = p
item_keep (Some x) p = keep p

-- what stands behind is a part
pub part_behind : {A : Type 0} (xs ys : List A) → Part ys (xs ++ ys)
part_behind [] ys = part_all ys
part_behind (x ∷ xs) ys = skip (part_behind xs ys)

pub each_part : {A : Type 0} (P : A → Type 0) {ys xs : List A} → Part ys xs → Each P xs → Each P ys
each_part P none h = tt
each_part P (skip p) h = each_part P p h.1
each_part P (keep p) h = (h.0, each_part P p h.1)

pub not_part : (n : OpName) {ys xs : List OpName} → Part ys xs → is_among n xs ≡ false → is_among n ys ≡ false
not_part n none h = refl
not_part n (skip {x = x} {xs = xs} p) h = not_part n p (or_parts (same_name x n) (is_among n xs) h).1
not_part n (keep {x = x} {xs = xs} {ys = ys} p) h =
    let q = or_parts (same_name x n) (is_among n xs) h in
    or_from (same_name x n) (is_among n ys) q.0 (not_part n p q.1)

pub once_part : {ys xs : List OpName} → Part ys xs → Once xs → Once ys
once_part none h = tt
once_part (skip p) h = once_part p h.1
once_part (keep {x = x} p) h = (not_part x p h.0, once_part p h.1)

pub text_not_part : (s : List ℕ) {ys xs : List (List ℕ)} → Part ys xs → is_text_among s xs ≡ false
    → is_text_among s ys ≡ false
text_not_part s none h = refl
text_not_part s (skip {x = x} {xs = xs} p) h = text_not_part s p (or_parts (same_bytes x s) (is_text_among s xs) h).1
text_not_part s (keep {x = x} {xs = xs} {ys = ys} p) h =
    let q = or_parts (same_bytes x s) (is_text_among s xs) h in
    or_from (same_bytes x s) (is_text_among s ys) q.0 (text_not_part s p q.1)

pub texts_part : {ys xs : List (List ℕ)} → Part ys xs → TextsOnce xs → TextsOnce ys
texts_part none h = tt
texts_part (skip p) h = texts_part p h.1
texts_part (keep {x = x} p) h = (text_not_part x p h.0, texts_part p h.1)

pub each_left : {A : Type 0} (P : A → Type 0) (xs ys : List A) → Each P (xs ++ ys) → Each P xs
each_left P [] ys h = tt
each_left P (x ∷ xs) ys h = (h.0, each_left P xs ys h.1)

pub each_right : {A : Type 0} (P : A → Type 0) (xs ys : List A) → Each P (xs ++ ys) → Each P ys
each_right P [] ys h = h
each_right P (x ∷ xs) ys h = each_right P xs ys h.1

pub each_both : {A : Type 0} (P : A → Type 0) (xs ys : List A) → Each P xs → Each P ys → Each P (xs ++ ys)
each_both P [] ys h k = k
each_both P (x ∷ xs) ys h k = (h.0, each_both P xs ys h.1 k)

-- what follows from a property holds of each that has it
pub each_map : {A : Type 0} (P Q : A → Type 0) (xs : List A) → ((x : A) → P x → Q x) → Each P xs → Each Q xs
each_map P Q [] f h = tt
each_map P Q (x ∷ xs) f h = (f x h.0, each_map P Q xs f h.1)
