-- Attributes that are put into a map, one by one.
use Rattle.std.proofs.Common.{◌≡◌, ℕ, ◌+◌, ◌<◌, ◌||◌, Bool, true, false, List, [], ◌∷◌, length, get_or, drop, Option, Some, None, Bor, refl, sym, ap, ◌∙◌}
use Rattle.std.specs.Prelude.{if◌then◌else◌, is_some, map}
use Rattle.std.specs.BTreeMap.{BTreeMap, UpdatesBy, insert_entry, get_by}
use Rattle.std.specs.Cmp.Lexicographic.{slice_cmp}
use Rattle.std.specs.Ordering.{nat_cmp, match_ordering}
use Rattle.std.proofs.Common.{Ordering, Less, Equal, Greater}
use Rattle.std.specs.Str.{bytes_eq}
use Rattle.std.proofs.lemmas.List.{at_drop_more}
use Rattle.std.proofs.lemmas.Map.Text.{btree_map_updates_str}
use Rattle.xf_type.specs.declared.attribute.AttrValue.{AttrValue}
use Rattle.xf_lex.specs.declared.token.Token.{Token}
use Rattle.xf_format.specs.declared.parts.AttrEntry.{AttrEntry}
use Rattle.xf_format.specs.Parts.{text_at, value_said, entry_said}
use Rattle.xf_ir.specs.declared.kind.Attr.{Attr}
use Rattle.xf_ir.specs.Walk.{first_of}
use Rattle.xf_read_base.specs.Attributes.{attr_in, attrs_in, names_of, also, entries_twice}
use Rattle.xf_read_base.specs.Values.{attr_value, attr_said, with_attr, with_said}

abbrev Entries : Type 0
Entries = List (Bor (List ℕ) × AttrValue)

abbrev by_bytes : Bor (List ℕ) → Bor (List ℕ) → Ordering
by_bytes x y = slice_cmp nat_cmp x.now y.now

placed : (o : Ordering) (k : Bor (List ℕ)) (v : AttrValue) (e : Bor (List ℕ) × AttrValue) (es more : Entries) (xs : List Attr) → attrs_in more ≡ xs
    → attrs_in (match_ordering o ((k, v) ∷ e ∷ es) ((e.0, v) ∷ es) (e ∷ more)) ≡ match_ordering o (attr_in (k, v) ∷ attr_in e ∷ attrs_in es) (attr_in (e.0, v) ∷ attrs_in es) (attr_in e ∷ xs)
placed Less k v e es more xs h = refl
placed Equal k v e es more xs h = refl
placed Greater k v e es more xs h = ap (λ ys. attr_in e ∷ ys) h

inserted : (k : Bor (List ℕ)) (v : AttrValue) (es : Entries) → attrs_in (insert_entry by_bytes es k v) ≡ with_attr (attr_in (k, v)) (attrs_in es)
inserted k v [] = refl
inserted k v (e ∷ es) = placed (by_bytes k e.0) k v e es (insert_entry by_bytes es k v) (with_attr (attr_in (k, v)) (attrs_in es)) (inserted k v es)

same_attr : (a b : Attr) → a.name ≡ b.name → a.value ≡ b.value → a ≡ b
same_attr a b p q = λ i. record { name = p i; value = q i }

pub attrs_more : (all : List Token) (es : List AttrEntry) (i : ℕ) (d : AttrEntry) (old new : Entries) (k : Bor (List ℕ)) (v : AttrValue) (total : List Attr) → i < length es
    → k.now ≡ text_at all (get_or es i d).name → v ≡ attr_value (value_said all (get_or es i d).value) → new ≡ insert_entry by_bytes old k v
    → with_said (map (entry_said all) (drop i es)) (attrs_in old) ≡ total → with_said (map (entry_said all) (drop (i + 1) es)) (attrs_in new) ≡ total
attrs_more all es i d old new k v total lt name value put h =
    let e : attrs_in new ≡ with_attr (attr_said (entry_said all (get_or es i d))) (attrs_in old) =
    ap attrs_in put ∙ inserted k v old ∙ ap (λ a. with_attr a (attrs_in old)) (same_attr (attr_in (k, v)) (attr_said (entry_said all (get_or es i d))) name value) in
    ap (λ xs. with_said (map (entry_said all) (drop (i + 1) es)) xs) e ∙ sym (at_drop_more (λ xs. with_said (map (entry_said all) xs) (attrs_in old)) es i d lt) ∙ h

is_some_if : {A : Type 0} (b : Bool) (v : A) (o : Option A) → is_some (if b then Some v else o) ≡ (b || is_some o)
is_some_if true v o = refl
is_some_if false v o = refl

names_more : (m n : BTreeMap (Bor (List ℕ)) AttrValue) (name : List ℕ) (v : AttrValue) → UpdatesBy by_bytes (λ k. slice_cmp nat_cmp name k.now) m n (Some v) → names_of n ≡ also name (names_of m)
names_more m n name v u =
    let at : (q : List ℕ) → names_of n q ≡ also name (names_of m) q =
    λ q. ap is_some (btree_map_updates_str name m n (Some v) u q) ∙ is_some_if (bytes_eq name q) v (get_by (λ k. slice_cmp nat_cmp q k.now) m) in
    λ i q. at q i

first_on : (t : Option ℕ) (b : Bool) (n : ℕ) (x : Option ℕ) → first_of (first_of t (if b then Some n else None)) x ≡ first_of t (if b then Some n else x)
first_on None true n x = refl
first_on None false n x = refl
first_on (Some t) b n x = refl

pub twice_more : (all : List Token) (es : List AttrEntry) (i : ℕ) (d : AttrEntry) (m n : BTreeMap (Bor (List ℕ)) AttrValue) (name : List ℕ) (v : AttrValue) (t u total : Option ℕ) (b : Bool) → i < length es
    → name ≡ text_at all (get_or es i d).name → UpdatesBy by_bytes (λ k. slice_cmp nat_cmp name k.now) m n (Some v) → b ≡ names_of m name → u ≡ first_of t (if b then Some (get_or es i d).name else None)
    → first_of t (entries_twice all (names_of m) (drop i es)) ≡ total → first_of u (entries_twice all (names_of n) (drop (i + 1) es)) ≡ total
twice_more all es i d m n name v t u total b lt p up q r h =
    let names : List ℕ → Bool = also (text_at all (get_or es i d).name) (names_of m) in
    let rest : Option ℕ = entries_twice all names (drop (i + 1) es) in
    let e : names_of n ≡ names = names_more m n name v up ∙ ap (λ s. also s (names_of m)) p in
    let f : b ≡ names_of m (text_at all (get_or es i d).name) = q ∙ ap (names_of m) p in
    ap (λ s. first_of u (entries_twice all s (drop (i + 1) es))) e
    ∙ ap (λ w. first_of w rest) r
    ∙ first_on t b (get_or es i d).name rest
    ∙ ap (λ c. first_of t (if c then Some (get_or es i d).name else rest)) f
    ∙ sym (at_drop_more (λ xs. first_of t (entries_twice all (names_of m) xs)) es i d lt) ∙ h
