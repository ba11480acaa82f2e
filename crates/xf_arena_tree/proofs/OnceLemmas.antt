-- Where names occur once, no operand and no value stands twice.
use Rattle.std.proofs.Common.{◌≡◌, ℕ, zero, suc, ◌+◌, ◌<◌, List, [], ◌∷◌, ◌++◌, length, sym, ◌∙◌, ap, arith, refl}
use Rattle.std.proofs.Common.{Bool, true, false, eqb, ◌||◌, inl, inr}
use Rattle.std.specs.Prelude.{Option, Some, None, ◌&&◌}
use Rattle.std.proofs.lemmas.Bool.{cases_Bool, or_parts, eqb-true, ne_eqb, eq-eqb}
use Rattle.xf_ir.specs.declared.name.OpName.{OpName}
use Rattle.xf_ir.specs.declared.name.ValueName.{ValueName}
use Rattle.xf_ir.specs.Tree.{Ops, no_ops, op, Regions, no_regions, region}
use Rattle.xf_uses.specs.declared.cell.Definition.{Definition}
use Rattle.xf_uses.specs.declared.cell.Definition.TheVariants.{Result, Argument}
use Rattle.xf_arena_tree.specs.Names.{ops_has, regions_has, OpsDistinct, RegionsDistinct}
use Rattle.xf_arena_tree.specs.Listed.{Entry, definition_of, entry_before, numbered, ops_entries, regions_entries}
use Rattle.xf_arena_tree.specs.Listed.{results_from, arguments_from, ops_values, regions_values, is_value_among}
use Rattle.xf_arena_tree.specs.Listed.{is_key_among, KeysOnce, ValuesOnce}
use Rattle.xf_arena_tree.proofs.WithoutLemmas.{parts3}
use Rattle.xf_arena_tree.proofs.ListedLemmas.{key_append, value_append}

none_of : (a b : Bool) → a ≡ false → b ≡ false → (a || b) ≡ false
none_of a b p q = rw (p, q) refl

clash : (b : Bool) → b ≡ true → b ≡ false → ⊥
clash b p q = let z : true ≡ false = sym p ∙ q in cc

front : (a b : Bool) → a ≡ true → (a || b) ≡ true
front a b p = rw p refl

behind : (a b : Bool) → b ≡ true → (a || b) ≡ true
behind true b p = refl
behind false b p = p

-- ---- operands

both_first : (a b : Bool) → a ≡ false → (a && b) ≡ false
both_first a b p = rw p refl

both_second : (a b : Bool) → b ≡ false → (a && b) ≡ false
both_second true b p = p
both_second false b p = refl

before_lacks : (o i : ℕ) (v : Option Definition) (es : List Entry) (n k : ℕ) → (eqb o n && eqb i k) ≡ false
    → is_key_among n k es ≡ false → is_key_among n k (entry_before o i v es) ≡ false
before_lacks o i None es n k a b = b
before_lacks o i (Some v) es n k a b = none_of (eqb o n && eqb i k) (is_key_among n k es) a b

numbered_lacks : (o i : ℕ) (vs : List ValueName) (n k : ℕ) → eqb o n ≡ false
    → is_key_among n k (numbered o i vs) ≡ false
numbered_lacks o i [] n k h = refl
numbered_lacks o i (v ∷ vs) n k h =
    before_lacks o i (definition_of v) (numbered o (i + 1) vs) n k (both_first (eqb o n) (eqb i k) h)
    (numbered_lacks o (i + 1) vs n k h)

numbered_above : (o i : ℕ) (vs : List ValueName) (n k : ℕ) → k < i → is_key_among n k (numbered o i vs) ≡ false
numbered_above o i [] n k h = refl
numbered_above o i (v ∷ vs) n k h =
    before_lacks o i (definition_of v) (numbered o (i + 1) vs) n k
    (both_second (eqb o n) (eqb i k) (ne_eqb i k (λ e. omega arith)))
    (numbered_above o (i + 1) vs n k (omega arith))

before_once : (o i : ℕ) (v : Option Definition) (es : List Entry) → is_key_among o i es ≡ false → KeysOnce es
    → KeysOnce (entry_before o i v es)
before_once o i None es a b = b
before_once o i (Some v) es a b = (a, b)

numbered_once : (o i : ℕ) (vs : List ValueName) → KeysOnce (numbered o i vs)
numbered_once o i [] = tt
numbered_once o i (v ∷ vs) =
    before_once o i (definition_of v) (numbered o (i + 1) vs) (numbered_above o (i + 1) vs o i (omega arith))
    (numbered_once o (i + 1) vs)

key_both : (xs ys : List Entry) (n k : ℕ) → is_key_among n k xs ≡ false → is_key_among n k ys ≡ false
    → is_key_among n k (xs ++ ys) ≡ false
key_both xs ys n k a b = key_append xs ys n k ∙ none_of (is_key_among n k xs) (is_key_among n k ys) a b

abbrev KeysApart : List Entry → List Entry → Type 0
KeysApart [] ys = Unit {0}
KeysApart (e ∷ xs) ys = (is_key_among e.op e.num ys ≡ false) × KeysApart xs ys

keys_append : (xs ys : List Entry) → KeysOnce xs → KeysOnce ys → KeysApart xs ys → KeysOnce (xs ++ ys)
keys_append [] ys a b c = b
keys_append (e ∷ xs) ys a b c = (key_both xs ys e.op e.num a.0 c.0, keys_append xs ys a.1 b c.1)

apart_append : (xs ys zs : List Entry) → KeysApart xs zs → KeysApart ys zs → KeysApart (xs ++ ys) zs
apart_append [] ys zs a b = b
apart_append (e ∷ xs) ys zs a b = (a.0, apart_append xs ys zs a.1 b)

before_apart : (o i : ℕ) (v : Option Definition) (es ys : List Entry) → is_key_among o i ys ≡ false → KeysApart es ys
    → KeysApart (entry_before o i v es) ys
before_apart o i None es ys a b = b
before_apart o i (Some v) es ys a b = (a, b)

numbered_apart : (o i : ℕ) (vs : List ValueName) (ys : List Entry) → ((k : ℕ) → is_key_among o k ys ≡ false)
    → KeysApart (numbered o i vs) ys
numbered_apart o i [] ys h = tt
numbered_apart o i (v ∷ vs) ys h =
    before_apart o i (definition_of v) (numbered o (i + 1) vs) ys (h i) (numbered_apart o (i + 1) vs ys h)

mutual
  pub entries_lack : (x : OpName) (k : ℕ) (ops : Ops) → ops_has x ops ≡ false
      → is_key_among x.0 k (ops_entries ops) ≡ false
  entries_lack x k no_ops h = refl
  entries_lack x k (op n kd ds os ts rs rest) h =
      let p = parts3 (eqb n.0 x.0) (regions_has x rs) (ops_has x rest) h in
      key_both (numbered n.0 0 os) _ x.0 k (numbered_lacks n.0 0 os x.0 k p.0)
      (key_both (regions_entries n 0 rs) _ x.0 k (regions_entries_lack x k n 0 rs p.1.0) (entries_lack x k rest p.1.1))

  pub regions_entries_lack : (x : OpName) (k : ℕ) (n : OpName) (r : ℕ) (rs : Regions) → regions_has x rs ≡ false
      → is_key_among x.0 k (regions_entries n r rs) ≡ false
  regions_entries_lack x k n r no_regions h = refl
  regions_entries_lack x k n r (region args ops rest) h =
      let p = or_parts (ops_has x ops) (regions_has x rest) h in
      key_both (ops_entries ops) _ x.0 k (entries_lack x k ops p.0) (regions_entries_lack x k n (suc r) rest p.1)

mutual
  entries_apart : (ops : Ops) (ys : List Entry)
      → ((x : OpName) (k : ℕ) → ops_has x ops ≡ true → is_key_among x.0 k ys ≡ false) → KeysApart (ops_entries ops) ys
  entries_apart no_ops ys h = tt
  entries_apart (op n kd ds os ts rs rest) ys h =
      let here : eqb n.0 n.0 ≡ true = eq-eqb n.0 n.0 refl in
      apart_append (numbered n.0 0 os) _ ys (numbered_apart n.0 0 os ys (λ k. h n k (rw here refl)))
      (apart_append (regions_entries n 0 rs) _ ys
      (regions_apart n 0 rs ys (λ x k a. h x k (behind (eqb n.0 x.0) _ (front (regions_has x rs) (ops_has x rest) a))))
      (entries_apart rest ys (λ x k a. h x k (behind (eqb n.0 x.0) _ (behind (regions_has x rs) (ops_has x rest) a)))))

  regions_apart : (n : OpName) (r : ℕ) (rs : Regions) (ys : List Entry)
      → ((x : OpName) (k : ℕ) → regions_has x rs ≡ true → is_key_among x.0 k ys ≡ false)
      → KeysApart (regions_entries n r rs) ys
  regions_apart n r no_regions ys h = tt
  regions_apart n r (region args ops rest) ys h =
      apart_append (ops_entries ops) _ ys
      (entries_apart ops ys (λ x k a. h x k (front (ops_has x ops) (regions_has x rest) a)))
      (regions_apart n (suc r) rest ys (λ x k a. h x k (behind (ops_has x ops) (regions_has x rest) a)))

mutual
  pub keys_once : (ops : Ops) → OpsDistinct ops → KeysOnce (ops_entries ops)
  keys_once no_ops d = tt
  keys_once (op n k ds os ts rs rest) d =
      let a : KeysOnce (regions_entries n 0 rs ++ ops_entries rest) =
      keys_append (regions_entries n 0 rs) (ops_entries rest) (regions_keys_once n 0 rs d.1.1.1.0)
      (keys_once rest d.1.1.1.1)
      (regions_apart n 0 rs (ops_entries rest) (λ x j h. entries_lack x j rest (d.1.1.0 x h)))
      in
      keys_append (numbered n.0 0 os) _ (numbered_once n.0 0 os) a
      (numbered_apart n.0 0 os _ (λ j. key_both (regions_entries n 0 rs) (ops_entries rest) n.0 j
      (regions_entries_lack n j n 0 rs d.0) (entries_lack n j rest d.1.0)))

  pub regions_keys_once : (n : OpName) (r : ℕ) (rs : Regions) → RegionsDistinct rs → KeysOnce (regions_entries n r rs)
  regions_keys_once n r no_regions d = tt
  regions_keys_once n r (region args ops rest) d =
      keys_append (ops_entries ops) _ (keys_once ops d.1.0) (regions_keys_once n (suc r) rest d.1.1)
      (entries_apart ops _ (λ x j h. regions_entries_lack x j n (suc r) rest (d.0 x h)))

-- ---- values

-- the operation that defines it
abbrev pub definer : Definition → ℕ
definer (Result o i) = o
definer (Argument o r i) = o

-- no argument of a region from j on
abbrev Earlier : ℕ → Definition → Type 0
Earlier j (Result o i) = Unit {0}
Earlier j (Argument o r i) = r < j

value_both : (xs ys : List Definition) (v : Definition) → is_value_among xs v ≡ false → is_value_among ys v ≡ false
    → is_value_among (xs ++ ys) v ≡ false
value_both xs ys v a b = value_append xs ys v ∙ none_of (is_value_among xs v) (is_value_among ys v) a b

results_lack : (o i count : ℕ) (v : Definition) → eqb o (definer v) ≡ false
    → is_value_among (results_from o i count) v ≡ false
results_lack o i zero v h = refl
results_lack o i (suc count) (Result p j) h =
    none_of _ _ (both_first (eqb o p) (eqb i j) h) (results_lack o (i + 1) count (Result p j) h)
results_lack o i (suc count) (Argument p r j) h = results_lack o (i + 1) count (Argument p r j) h

results_no_argument : (o i count p r j : ℕ) → is_value_among (results_from o i count) (Argument p r j) ≡ false
results_no_argument o i zero p r j = refl
results_no_argument o i (suc count) p r j = results_no_argument o (i + 1) count p r j

results_above : (o i count p j : ℕ) → j < i → is_value_among (results_from o i count) (Result p j) ≡ false
results_above o i zero p j h = refl
results_above o i (suc count) p j h =
    none_of _ _ (both_second (eqb o p) (eqb i j) (ne_eqb i j (λ e. omega arith)))
    (results_above o (i + 1) count p j (omega arith))

results_once : (o i count : ℕ) → ValuesOnce (results_from o i count)
results_once o i zero = tt
results_once o i (suc count) = (results_above o (i + 1) count o i (omega arith), results_once o (i + 1) count)

arguments_lack : (o r i count : ℕ) (v : Definition) → eqb o (definer v) ≡ false
    → is_value_among (arguments_from o r i count) v ≡ false
arguments_lack o r i zero v h = refl
arguments_lack o r i (suc count) (Result p j) h = arguments_lack o r (i + 1) count (Result p j) h
arguments_lack o r i (suc count) (Argument p q j) h =
    none_of _ _ (both_first (eqb o p) (eqb r q && eqb i j) h) (arguments_lack o r (i + 1) count (Argument p q j) h)

arguments_later : (o r i count : ℕ) (v : Definition) → Earlier r v
    → is_value_among (arguments_from o r i count) v ≡ false
arguments_later o r i zero v h = refl
arguments_later o r i (suc count) (Result p j) h = arguments_later o r (i + 1) count (Result p j) h
arguments_later o r i (suc count) (Argument p q j) h =
    none_of _ _ (both_second (eqb o p) (eqb r q && eqb i j)
    (both_first (eqb r q) (eqb i j) (ne_eqb r q (λ e. omega arith))))
    (arguments_later o r (i + 1) count (Argument p q j) h)

arguments_above : (o r i count p q j : ℕ) → j < i → is_value_among (arguments_from o r i count) (Argument p q j) ≡ false
arguments_above o r i zero p q j h = refl
arguments_above o r i (suc count) p q j h =
    none_of _ _ (both_second (eqb o p) (eqb r q && eqb i j)
    (both_second (eqb r q) (eqb i j) (ne_eqb i j (λ e. omega arith))))
    (arguments_above o r (i + 1) count p q j (omega arith))

arguments_once : (o r i count : ℕ) → ValuesOnce (arguments_from o r i count)
arguments_once o r i zero = tt
arguments_once o r i (suc count) =
    (arguments_above o r (i + 1) count o r i (omega arith), arguments_once o r (i + 1) count)

abbrev ValuesApart : List Definition → List Definition → Type 0
ValuesApart [] ys = Unit {0}
ValuesApart (v ∷ xs) ys = (is_value_among ys v ≡ false) × ValuesApart xs ys

values_append : (xs ys : List Definition) → ValuesOnce xs → ValuesOnce ys → ValuesApart xs ys → ValuesOnce (xs ++ ys)
values_append [] ys a b c = b
values_append (v ∷ xs) ys a b c = (value_both xs ys v a.0 c.0, values_append xs ys a.1 b c.1)

values_apart : (xs ys zs : List Definition) → ValuesApart xs zs → ValuesApart ys zs → ValuesApart (xs ++ ys) zs
values_apart [] ys zs a b = b
values_apart (v ∷ xs) ys zs a b = (a.0, values_apart xs ys zs a.1 b)

results_apart : (o i count : ℕ) (ys : List Definition) → ((j : ℕ) → is_value_among ys (Result o j) ≡ false)
    → ValuesApart (results_from o i count) ys
results_apart o i zero ys h = tt
results_apart o i (suc count) ys h = (h i, results_apart o (i + 1) count ys h)

arguments_apart : (o r i count : ℕ) (ys : List Definition) → ((j : ℕ) → is_value_among ys (Argument o r j) ≡ false)
    → ValuesApart (arguments_from o r i count) ys
arguments_apart o r i zero ys h = tt
arguments_apart o r i (suc count) ys h = (h i, arguments_apart o r (i + 1) count ys h)

mutual
  pub values_lack : (x : OpName) (v : Definition) (ops : Ops) → definer v ≡ x.0 → ops_has x ops ≡ false
      → is_value_among (ops_values ops) v ≡ false
  values_lack x v no_ops e h = refl
  values_lack x v (op n k ds os ts rs rest) e h =
      let p = parts3 (eqb n.0 x.0) (regions_has x rs) (ops_has x rest) h in
      value_both (results_from n.0 0 (length ts)) _ v (results_lack n.0 0 (length ts) v (ap (eqb n.0) e ∙ p.0))
      (value_both (regions_values n 0 rs) _ v (regions_values_lack x v n 0 rs e p.0 p.1.0)
      (values_lack x v rest e p.1.1))

  -- neither of the holder nor of what it holds
  pub regions_values_lack : (x : OpName) (v : Definition) (n : OpName) (r : ℕ) (rs : Regions) → definer v ≡ x.0
      → eqb n.0 x.0 ≡ false → regions_has x rs ≡ false → is_value_among (regions_values n r rs) v ≡ false
  regions_values_lack x v n r no_regions e f h = refl
  regions_values_lack x v n r (region args ops rest) e f h =
      let p = or_parts (ops_has x ops) (regions_has x rest) h in
      value_both (arguments_from n.0 r 0 (length args)) _ v
      (arguments_lack n.0 r 0 (length args) v (ap (eqb n.0) e ∙ f))
      (value_both (ops_values ops) _ v (values_lack x v ops e p.0) (regions_values_lack x v n (suc r) rest e f p.1))

-- of the holder's own, those of later regions alone
own_lack : (n : OpName) (v : Definition) (r : ℕ) (rs : Regions) → definer v ≡ n.0 → Earlier r v
    → regions_has n rs ≡ false
    → is_value_among (regions_values n r rs) v ≡ false
own_lack n v r no_regions e w h = refl
own_lack n v r (region args ops rest) e w h =
    let p = or_parts (ops_has n ops) (regions_has n rest) h in
    value_both (arguments_from n.0 r 0 (length args)) _ v (arguments_later n.0 r 0 (length args) v w)
    (value_both (ops_values ops) _ v (values_lack n v ops e p.0) (own_lack n v (suc r) rest e (later v r w) p.1))
  where
    later : (v : Definition) (r : ℕ) → Earlier r v → Earlier (suc r) v
    later (Result o i) r h = tt
    later (Argument o q i) r h = omega arith

mutual
  values_apart_of : (ops : Ops) (ys : List Definition)
      → ((x : OpName) (v : Definition) → ops_has x ops ≡ true → definer v ≡ x.0 → is_value_among ys v ≡ false)
      → ValuesApart (ops_values ops) ys
  values_apart_of no_ops ys h = tt
  values_apart_of (op n k ds os ts rs rest) ys h =
      let here : ops_has n (op n k ds os ts rs rest) ≡ true = front (eqb n.0 n.0) _ (eq-eqb n.0 n.0 refl) in
      values_apart (results_from n.0 0 (length ts)) _ ys
      (results_apart n.0 0 (length ts) ys (λ j. h n (Result n.0 j) here refl))
      (values_apart (regions_values n 0 rs) _ ys
      (regions_values_apart n 0 rs ys (λ v e. h n v here e)
      (λ x v a e. h x v (behind (eqb n.0 x.0) _ (front (regions_has x rs) (ops_has x rest) a)) e))
      (values_apart_of rest ys (λ x v a e. h x v
      (behind (eqb n.0 x.0) _ (behind (regions_has x rs) (ops_has x rest) a)) e)))

  regions_values_apart : (n : OpName) (r : ℕ) (rs : Regions) (ys : List Definition)
      → ((v : Definition) → definer v ≡ n.0 → is_value_among ys v ≡ false)
      → ((x : OpName) (v : Definition) → regions_has x rs ≡ true → definer v ≡ x.0 → is_value_among ys v ≡ false)
      → ValuesApart (regions_values n r rs) ys
  regions_values_apart n r no_regions ys own h = tt
  regions_values_apart n r (region args ops rest) ys own h =
      values_apart (arguments_from n.0 r 0 (length args)) _ ys
      (arguments_apart n.0 r 0 (length args) ys (λ j. own (Argument n.0 r j) refl))
      (values_apart (ops_values ops) _ ys
      (values_apart_of ops ys (λ x v a e. h x v (front (ops_has x ops) (regions_has x rest) a) e))
      (regions_values_apart n (suc r) rest ys own (λ x v a e. h x v (behind (ops_has x ops) (regions_has x rest) a) e)))

other_name : (f : OpName → Bool) (n x : OpName) → f n ≡ false → f x ≡ true → eqb n.0 x.0 ≡ false
other_name f n x a b = elim (cases_Bool (eqb n.0 x.0)) [
  | inl e ↦ (
      let mk : ℕ → OpName = λ i. record { 0 = i } in
      let q : n ≡ x = ap mk (eqb-true n.0 x.0 e) in
      absurd (clash (f x) b (ap f (sym q) ∙ a)))
  | inr e ↦ e
]

mutual
  pub values_once : (ops : Ops) → OpsDistinct ops → ValuesOnce (ops_values ops)
  values_once no_ops d = tt
  values_once (op n k ds os ts rs rest) d =
      let a : ValuesOnce (regions_values n 0 rs ++ ops_values rest) =
      values_append (regions_values n 0 rs) (ops_values rest) (regions_values_once n 0 rs d.0 d.1.1.1.0)
      (values_once rest d.1.1.1.1)
      (regions_values_apart n 0 rs (ops_values rest) (λ v e. values_lack n v rest e d.1.0)
      (λ x v h e. values_lack x v rest e (d.1.1.0 x h)))
      in
      values_append (results_from n.0 0 (length ts)) _ (results_once n.0 0 (length ts)) a
      (results_apart n.0 0 (length ts) _ (λ j. value_both (regions_values n 0 rs) (ops_values rest) (Result n.0 j)
      (own_lack n (Result n.0 j) 0 rs refl tt d.0) (values_lack n (Result n.0 j) rest refl d.1.0)))

  pub regions_values_once : (n : OpName) (r : ℕ) (rs : Regions) → regions_has n rs ≡ false → RegionsDistinct rs
      → ValuesOnce (regions_values n r rs)
  regions_values_once n r no_regions f d = tt
  regions_values_once n r (region args ops rest) f d =
      let p = or_parts (ops_has n ops) (regions_has n rest) f in
      let a : ValuesOnce (ops_values ops ++ regions_values n (suc r) rest) =
      values_append (ops_values ops) (regions_values n (suc r) rest) (values_once ops d.1.0)
      (regions_values_once n (suc r) rest p.1 d.1.1)
      (values_apart_of ops (regions_values n (suc r) rest)
      (λ x v h e. regions_values_lack x v n (suc r) rest e (other_name (λ y. ops_has y ops) n x p.0 h) (d.0 x h)))
      in
      values_append (arguments_from n.0 r 0 (length args)) _ (arguments_once n.0 r 0 (length args)) a
      (arguments_apart n.0 r 0 (length args) _
      (λ j. value_both (ops_values ops) (regions_values n (suc r) rest) (Argument n.0 r j)
      (values_lack n (Argument n.0 r j) ops refl p.0)
      (own_lack n (Argument n.0 r j) (suc r) rest refl (omega arith) p.1)))
