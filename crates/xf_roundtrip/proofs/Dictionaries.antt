-- Attributes are said again by their entries.
use Rattle.std.proofs.Common.{◌≡◌, ◌⊎◌, inl, inr, ℕ, ◌<◌, Bool, true, false, List, [], ◌∷◌, ◌++◌, refl, sym, ap, ◌∙◌}
use Rattle.std.proofs.Common.{arith, append_assoc, append-nil}
use Rattle.std.proofs.Common.{Equal, Greater}
use Rattle.std.specs.Prelude.{map, ◌&&◌}
use Rattle.std.specs.Cmp.{nat_cmp_is}
use Rattle.std.specs.Cmp.Lexicographic.{slice_cmp}
use Rattle.std.specs.Ordering.{nat_cmp}
use Rattle.std.specs.Str.{bytes_eq}
use Rattle.std.proofs.lemmas.Bool.{and_parts, or_from, cases_Bool}
use Rattle.std.proofs.lemmas.Bool.Decides.{nat_tests}
use Rattle.std.proofs.lemmas.Slice.Eq.{bytes_eq-Decides}
use Rattle.xf_type.specs.declared.attribute.AttrValue.{AttrValue}
use Rattle.xf_type.specs.declared.attribute.AttrValue.TheVariants as attr
use Rattle.xf_ir.specs.declared.kind.Attr.{Attr}
use Rattle.xf_ir.specs.Attributes.{bytes_before}
use Rattle.xf_ir.specs.Lists.{Each, every}
use Rattle.xf_ir.specs.RuleAttributes.{value_fits, attributes_fit}
use Rattle.xf_ir.specs.Words.{is_word}
use Rattle.xf_ir.proofs.BytesOrder.{not_itself}
use Rattle.xf_ir.proofs.Lists.{each_both}
use Rattle.xf_read_base.specs.Attributes.{also}
use Rattle.xf_read_base.specs.Values.{with_attr, attr_value, with_said, attrs_said}
use Rattle.xf_print_laws.specs.Stored.{HasBytes}
use Rattle.xf_roundtrip.specs.SaidWell.{entries_once}
use Rattle.xf_print_laws.specs.SaidPrinted.{value_printed, entry_printed}
use Rattle.xf_print_laws.proofs.Strings.{string_again}
use Rattle.xf_roundtrip.proofs.Literals.{integer_again}

pub each_all : {A : Type 0} (P : A → Type 0) (xs : List A) → ((x : A) → P x) → Each P xs
each_all P [] f = tt
each_all P (x ∷ xs) f = (f x, each_all P xs f)

-- ---- values

value_again : (v : AttrValue) → value_fits v ≡ true → HasBytes v → attr_value (value_printed v) ≡ v
value_again attr.Unit f b = refl
value_again (attr.Int width bits) f b = integer_again width bits f
value_again (attr.Text bytes) f b = ap attr.Text (string_again bytes b)

-- ---- order

abbrev Behind : Attr → Attr → Type 0
Behind d e = bytes_before d.name e.name ≡ true

greater : (xs ys : List ℕ) → bytes_before ys xs ≡ true → slice_cmp nat_cmp xs ys ≡ Greater
greater [] ys h = absurd (not_first ys h)
  where
    not_first : (ys : List ℕ) → bytes_before ys [] ≡ true → ⊥
    not_first [] h = cc
    not_first (y ∷ ys) h = cc
greater (x ∷ xs) [] h = refl
greater (x ∷ xs) (y ∷ ys) h = elim (ordered h) [
  | inl a ↦ let e = sym (nat_cmp_is x y Greater a) in rw e
  | inr a ↦ let e = sym (nat_cmp_is x y Equal (sym a.0)) in rw e (greater xs ys a.1)
]
  where
    ordered : bytes_before (y ∷ ys) (x ∷ xs) ≡ true → (y < x) ⊎ ((y ≡ x) × (bytes_before ys xs ≡ true))
    ordered h = grind (arith, nat_tests)

-- an attribute behind all others is put at the end
put_last : (a : Attr) (bs : List Attr) → Each (λ b. Behind b a) bs → with_attr a bs ≡ bs ++ a ∷ []
put_last a [] h = refl
put_last a (b ∷ bs) h = let e = greater a.name b.name h.0 in rw e (ap (λ xs. b ∷ xs) (put_last a bs h.1))

every_is : (p : Attr → Bool) (ds : List Attr) → every p ds ≡ true → Each (λ d. p d ≡ true) ds
every_is p [] h = tt
every_is p (d ∷ ds) h = let q = and_parts (p d) (every p ds) h in (q.0, every_is p ds q.1)

record Leads (d : Attr) (ds : List Attr) : Type 0 where
  value : value_fits d.value ≡ true
  behind : Each (Behind d) ds
  fit : attributes_fit ds ≡ true

first : (d : Attr) (ds : List Attr) → attributes_fit (d ∷ ds) ≡ true → Leads d ds
first d ds f =
    let p = and_parts (is_word d.name && value_fits d.value) _ f in
    let r = and_parts (every (λ (e : Attr). bytes_before d.name e.name) ds) (attributes_fit ds) p.1 in
    record { value = (and_parts (is_word d.name) _ p.0).1; behind = every_is _ ds r.0; fit = r.1 }

-- all those before come before these
abbrev Before : List Attr → List Attr → Type 0
Before bs ds = Each (λ d. Each (λ b. Behind b d) bs) ds

before_more : (bs : List Attr) (d : Attr) (ds : List Attr) → Before bs ds → Each (Behind d) ds
    → Before (bs ++ d ∷ []) ds
before_more bs d [] h g = tt
before_more bs d (e ∷ ds) h g = (each_both (λ b. Behind b e) bs (d ∷ []) h.0 (g.0, tt), before_more bs d ds h.1 g.1)

said_behind : (bs ds : List Attr) → attributes_fit ds ≡ true → Each (λ (d : Attr). HasBytes d.value) ds → Before bs ds
    → with_said (map entry_printed ds) bs ≡ bs ++ ds
said_behind bs [] f b h = sym (append-nil bs)
said_behind bs (d ∷ ds) f b h =
    let o = first d ds f in
    let e = value_again d.value o.value b.0 in
    let more = bs ++ d ∷ [] in
    (λ i. with_said (map entry_printed ds) (with_attr (record { name = d.name; value = e i }) bs))
    ∙ (ap (with_said (map entry_printed ds)) (put_last d bs h.0)
    ∙ (said_behind more ds o.fit b.1 (before_more bs d ds h.1 o.behind) ∙ append_assoc bs (d ∷ []) ds))

pub attrs_again : (ds : List Attr) → attributes_fit ds ≡ true → Each (λ (d : Attr). HasBytes d.value) ds
    → attrs_said (map entry_printed ds) ≡ ds
attrs_again ds f b = said_behind [] ds f b (each_all _ ds (λ d. tt))

-- ---- names that stand once

apart : (x y : List ℕ) → bytes_before x y ≡ true → bytes_eq x y ≡ false
apart x y h = elim (cases_Bool (bytes_eq x y)) [
  | inl e ↦ absurd (let p = (bytes_eq-Decides x y).0 e in
      let z : true ≡ false = sym h ∙ (ap (bytes_before x) (sym p) ∙ not_itself x) in
      cc)
  | inr e ↦ e
]

new_names : (names : List ℕ → Bool) (d : Attr) (ds : List Attr) → Each (λ (e : Attr). names e.name ≡ false) ds
    → Each (Behind d) ds → Each (λ (e : Attr). also d.name names e.name ≡ false) ds
new_names names d [] h g = tt
new_names names d (e ∷ ds) h g = (or_from _ _ (apart d.name e.name g.0) h.0, new_names names d ds h.1 g.1)

entries_new : (names : List ℕ → Bool) (ds : List Attr) → attributes_fit ds ≡ true
    → Each (λ (e : Attr). names e.name ≡ false) ds → entries_once names (map entry_printed ds) ≡ true
entries_new names [] f h = refl
entries_new names (d ∷ ds) f h =
    let o = first d ds f in
    let q = h.0 in
    rw q (entries_new (also d.name names) ds o.fit (new_names names d ds h.1 o.behind))

pub entries_differ : (ds : List Attr) → attributes_fit ds ≡ true
    → entries_once (λ name. false) (map entry_printed ds) ≡ true
entries_differ ds f = entries_new (λ name. false) ds f (each_all _ ds (λ d. refl))
