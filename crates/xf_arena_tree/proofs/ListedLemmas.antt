-- Operands and values of a tree as functions, before and after an edit.
use Rattle.std.proofs.Common.{◌≡◌, ℕ, List, [], ◌∷◌, ◌++◌, sym, ◌∙◌, ap, refl}
use Rattle.std.proofs.Common.{Bool, true, false, cond, eqb, ◌||◌, inl, inr}
use Rattle.std.specs.Prelude.{Option, Some, None, ◌&&◌}
use Rattle.std.proofs.lemmas.Bool.{cases_Bool, or_parts, and_parts, eqb-true}
use Rattle.xf_ir.specs.Walk.{first_of}
use Rattle.xf_uses.specs.declared.cell.Definition.{Definition}
use Rattle.xf_uses.specs.Cells.{Cells}
use Rattle.xf_uses.specs.Uses.{Operands, Values, with_operand, with_value, same_value, AreUses}
use Rattle.xf_arena_tree.specs.Listed.{Entry, with_entries, without_entries, with_values, entry_at, is_value_among}
use Rattle.xf_arena_tree.specs.Listed.{is_key_among, KeysOnce, Splits}

-- ---- operands

pub entry_append : (xs ys : List Entry) (n k : ℕ)
    → entry_at (xs ++ ys) n k ≡ first_of (entry_at xs n k) (entry_at ys n k)
entry_append [] ys n k = refl
entry_append (e ∷ xs) ys n k =
    elim ((eqb e.op n) && (eqb e.num k)) as (λ b. cond b (Some e.value) (entry_at (xs ++ ys) n k)
    ≡ first_of (cond b (Some e.value) (entry_at xs n k)) (entry_at ys n k)) [
      | true ↦ refl
      | false ↦ entry_append xs ys n k
    ]

pub entry_none : (xs : List Entry) (n k : ℕ) → is_key_among n k xs ≡ false → entry_at xs n k ≡ None
entry_none [] n k h = refl
entry_none (e ∷ xs) n k h =
    let p = or_parts ((eqb e.op n) && (eqb e.num k)) (is_key_among n k xs) h in
    rw p.0 (entry_none xs n k p.1)

pub key_append : (xs ys : List Entry) (n k : ℕ)
    → is_key_among n k (xs ++ ys) ≡ (is_key_among n k xs || is_key_among n k ys)
key_append [] ys n k = refl
key_append (e ∷ xs) ys n k =
    elim ((eqb e.op n) && (eqb e.num k)) as (λ b. (b || is_key_among n k (xs ++ ys))
    ≡ ((b || is_key_among n k xs) || is_key_among n k ys)) [ true ↦ refl | false ↦ key_append xs ys n k ]

key_same : (a b n k : ℕ) → (eqb a n && eqb b k) ≡ true → (a ≡ n) × (b ≡ k)
key_same a b n k h = let p = and_parts (eqb a n) (eqb b k) h in (eqb-true a n p.0, eqb-true b k p.1)

key_parts : (xs ys : List Entry) (n k : ℕ) → is_key_among n k (xs ++ ys) ≡ false
    → (is_key_among n k xs ≡ false) × (is_key_among n k ys ≡ false)
key_parts xs ys n k h = or_parts (is_key_among n k xs) (is_key_among n k ys) (sym (key_append xs ys n k) ∙ h)

pub keys_apart : (xs ys : List Entry) (n k : ℕ) → KeysOnce (xs ++ ys) → is_key_among n k xs ≡ true
    → is_key_among n k ys ≡ false
keys_apart [] ys n k o h = cc
keys_apart (e ∷ xs) ys n k o h =
    elim (cases_Bool ((eqb e.op n) && (eqb e.num k))) [
      | inl t ↦ (
          let q = key_same e.op e.num n k t in
          let z = (key_parts xs ys e.op e.num o.0).1 in
          rw (← q.0, ← q.1) z)
      | inr f ↦ keys_apart xs ys n k o.1 (rw f at h)
    ]

pub keys_right : (xs ys : List Entry) → KeysOnce (xs ++ ys) → KeysOnce ys
keys_right [] ys o = o
keys_right (e ∷ xs) ys o = keys_right xs ys o.1

pub keys_left : (xs ys : List Entry) → KeysOnce (xs ++ ys) → KeysOnce xs
keys_left [] ys o = tt
keys_left (e ∷ xs) ys o = ((key_parts xs ys e.op e.num o.0).0, keys_left xs ys o.1)

pub with_is : (xs : List Entry) (u : Operands) (n k : ℕ) → KeysOnce xs
    → with_entries xs u n k ≡ first_of (entry_at xs n k) (u n k)
with_is [] u n k o = refl
with_is (e ∷ es) u n k o =
    let i = with_is es (with_operand e.op e.num (Some e.value) u) n k o.1 in
    elim (cases_Bool ((eqb e.op n) && (eqb e.num k))) [
      | inl t ↦ (
          let q = key_same e.op e.num n k t in
          let lacks : is_key_among n k es ≡ false = rw (← q.0, ← q.1) o.0 in
          let z = entry_none es n k lacks in
          i ∙ rw (z, t) refl)
      | inr f ↦ i ∙ rw f refl
    ]

abbrev none : Option Definition
none = None

none_both : (b : Bool) → cond b none none ≡ none
none_both true = refl
none_both false = refl

pub without_is : (xs : List Entry) (u : Operands) (n k : ℕ)
    → without_entries xs u n k ≡ cond (is_key_among n k xs) None (u n k)
without_is [] u n k = refl
without_is (e ∷ es) u n k =
    let i = without_is es (with_operand e.op e.num None u) n k in
    elim (cases_Bool ((eqb e.op n) && (eqb e.num k))) [
      | inl t ↦ i ∙ rw t (none_both (is_key_among n k es))
      | inr f ↦ i ∙ rw f refl
    ]

first_same : (a b c : Option Definition) → b ≡ c → first_of a b ≡ first_of a c
first_same a b c e = ap (λ (o : Option Definition). first_of a o) e

-- with other operands among them
pub put_entries : (xs ys zs : List Entry) → Splits xs ys zs → KeysOnce zs → (n k : ℕ)
    → with_entries xs (entry_at ys) n k ≡ entry_at zs n k
put_entries xs ys zs s o n k =
    let o2 : KeysOnce (s.pre ++ (xs ++ s.post)) = rw s.having at o in
    let a = with_is xs (entry_at ys) n k (keys_left xs s.post (keys_right s.pre (xs ++ s.post) o2)) in
    let b : entry_at ys n k ≡ first_of (entry_at s.pre n k) (entry_at s.post n k) =
    ap (λ l. entry_at l n k) s.lacking ∙ entry_append s.pre s.post n k
    in
    let c : entry_at zs n k ≡ first_of (entry_at s.pre n k) (first_of (entry_at xs n k) (entry_at s.post n k)) =
    ap (λ l. entry_at l n k) s.having ∙ entry_append s.pre (xs ++ s.post) n k
    ∙ first_same (entry_at s.pre n k) _ _ (entry_append xs s.post n k)
    in
    elim (cases_Bool (is_key_among n k s.pre)) [
      | inl t ↦ (
          let z = keys_apart s.pre (xs ++ s.post) n k o2 t in
          let x = entry_none xs n k (key_parts xs s.post n k z).0 in
          a ∙ rw x (b ∙ sym (c ∙ rw x refl)))
      | inr f ↦ (
          let p = entry_none s.pre n k f in
          a ∙ first_same (entry_at xs n k) _ (entry_at s.post n k) (b ∙ rw p refl) ∙ sym (c ∙ rw p refl))
    ]

-- without some of them
pub erased_entries : (xs ys zs : List Entry) → Splits xs ys zs → KeysOnce zs → (n k : ℕ)
    → without_entries xs (entry_at zs) n k ≡ entry_at ys n k
erased_entries xs ys zs s o n k =
    let o2 : KeysOnce (s.pre ++ (xs ++ s.post)) = rw s.having at o in
    let a = without_is xs (entry_at zs) n k in
    let b : entry_at ys n k ≡ first_of (entry_at s.pre n k) (entry_at s.post n k) =
    ap (λ l. entry_at l n k) s.lacking ∙ entry_append s.pre s.post n k
    in
    let c : entry_at zs n k ≡ first_of (entry_at s.pre n k) (first_of (entry_at xs n k) (entry_at s.post n k)) =
    ap (λ l. entry_at l n k) s.having ∙ entry_append s.pre (xs ++ s.post) n k
    ∙ first_same (entry_at s.pre n k) _ _ (entry_append xs s.post n k)
    in
    elim (cases_Bool (is_key_among n k xs)) [
      | inl t ↦ (
          let post = entry_none s.post n k (keys_apart xs s.post n k (keys_right s.pre (xs ++ s.post) o2) t) in
          let pre = entry_none s.pre n k (not_before s.pre xs s.post n k o2 t) in
          a ∙ rw t (sym (b ∙ rw (pre, post) refl)))
      | inr f ↦ (
          let x = entry_none xs n k f in
          a ∙ rw f (c ∙ rw x refl ∙ sym b))
    ]
  where
    not_before : (pre xs post : List Entry) (n k : ℕ) → KeysOnce (pre ++ (xs ++ post)) → is_key_among n k xs ≡ true
        → is_key_among n k pre ≡ false
    not_before pre xs post n k o t =
        elim (cases_Bool (is_key_among n k pre)) [
          | inl p ↦ (
              let z = (key_parts xs post n k (keys_apart pre (xs ++ post) n k o p)).0 in
              let w : true ≡ false = sym t ∙ z in cc)
          | inr p ↦ p
        ]

-- ---- values

pub value_append : (xs ys : List Definition) (v : Definition)
    → is_value_among (xs ++ ys) v ≡ (is_value_among xs v || is_value_among ys v)
value_append [] ys v = refl
value_append (w ∷ xs) ys v =
    elim (same_value w v) as (λ b. (b || is_value_among (xs ++ ys) v)
    ≡ ((b || is_value_among xs v) || is_value_among ys v)) [ true ↦ refl | false ↦ value_append xs ys v ]

pub value_parts : (xs ys : List Definition) (v : Definition) → is_value_among (xs ++ ys) v ≡ false
    → (is_value_among xs v ≡ false) × (is_value_among ys v ≡ false)
value_parts xs ys v h = or_parts (is_value_among xs v) (is_value_among ys v) (sym (value_append xs ys v) ∙ h)

same_true : (o n i k : ℕ) → (eqb o n && eqb i k) ≡ true → (o ≡ n) × (i ≡ k)
same_true o n i k h = key_same o i n k h

or_true : (b : Bool) → (b || true) ≡ true
or_true true = refl
or_true false = refl

pub with_values_is : (xs : List Definition) (d : Values) (v : Definition)
    → with_values true xs d v ≡ (is_value_among xs v || d v)
with_values_is [] d v = refl
with_values_is (w ∷ ws) d v =
    let i = with_values_is ws (with_value w true d) v in
    elim (cases_Bool (same_value w v)) [
      | inl t ↦ i ∙ rw t (or_true (is_value_among ws v))
      | inr f ↦ i ∙ rw f refl
    ]

false_both : (b : Bool) → cond b false false ≡ false
false_both true = refl
false_both false = refl

pub without_values_is : (xs : List Definition) (d : Values) (v : Definition)
    → with_values false xs d v ≡ cond (is_value_among xs v) false (d v)
without_values_is [] d v = refl
without_values_is (w ∷ ws) d v =
    let i = without_values_is ws (with_value w false d) v in
    elim (cases_Bool (same_value w v)) [
      | inl t ↦ i ∙ rw t (false_both (is_value_among ws v))
      | inr f ↦ i ∙ rw f refl
    ]

swap_or : (x p q : Bool) → (x || (p || q)) ≡ (p || (x || q))
swap_or true true q = refl
swap_or true false q = refl
swap_or false true q = refl
swap_or false false q = refl

pub put_values : (xs ys zs : List Definition) → Splits xs ys zs → (v : Definition)
    → with_values true xs (is_value_among ys) v ≡ is_value_among zs v
put_values xs ys zs s v =
    with_values_is xs (is_value_among ys) v
    ∙ ap (λ b. is_value_among xs v || b) (ap (λ l. is_value_among l v) s.lacking ∙ value_append s.pre s.post v)
    ∙ swap_or (is_value_among xs v) (is_value_among s.pre v) (is_value_among s.post v)
    ∙ sym (ap (λ l. is_value_among l v) s.having ∙ value_append s.pre (xs ++ s.post) v
    ∙ ap (λ b. is_value_among s.pre v || b) (value_append xs s.post v))

-- ---- what the cells stand for is what is the same

pub uses_same : (a : Cells) (u u2 : Operands) (d d2 : Values) → ((n k : ℕ) → u n k ≡ u2 n k)
    → ((v : Definition) → d v ≡ d2 v) → AreUses a u d → AreUses a u2 d2
uses_same a u u2 d d2 p q w = record {
  linked = λ n k v e. w.linked n k v (p n k ∙ e);
  operands = λ n k h. (let r = w.operands n k h in (r.0, sym (p n k) ∙ r.1));
  defined = λ v e. w.defined v (q v ∙ e);
  values = λ v h. sym (q v) ∙ w.values v h;
}
