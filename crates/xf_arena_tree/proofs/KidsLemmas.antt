-- Places among the operations that one holds.
use Rattle.std.proofs.Common.{◌≡◌, ℕ, zero, suc, ◌+◌, ◌-◌, ◌<◌, ◌≤◌, List, [], ◌∷◌, ◌++◌, take}
use Rattle.std.proofs.Common.{sym, ◌∙◌, ap, arith, refl, true, false, eqb}
use Rattle.std.specs.Prelude.{Option, Some, None, nat_lt}
use Rattle.std.proofs.lemmas.Bool.{eq-eqb, ne_eqb, lt-ltb, le-ltb}
use Rattle.xf_ir.specs.declared.name.OpName.{OpName}
use Rattle.xf_ir.specs.Tree.{Ops, no_ops, op, Regions, no_regions, region, Tree, cons}
use Rattle.xf_ir.specs.Walk.{tree_find}
use Rattle.xf_arena_tree.specs.Names.{heads, OpsDistinct}
use Rattle.xf_arena_tree.specs.Without.{OpsWhere}
use Rattle.xf_arena_tree.specs.Puts.{InRange, kids_before, last_name, StandsAt}
use Rattle.xf_arena_tree.specs.Kids.{Inner, block_inner, inner_of, before_place, names_in, last_or, first_item}
use Rattle.xf_arena_tree.proofs.BridgeLemmas.{found_where, found_is}
use Rattle.xf_arena_tree.proofs.WhereLemmas.{where_found}

-- ---- before a place

lt_true : (a b : ℕ) → a < b → nat_lt a b ≡ true
lt_true a b h = lt-ltb a b h

not_lt : (a b : ℕ) → b ≤ a → nat_lt a b ≡ false
not_lt a b h = le-ltb a b h

abbrev names_none : List OpName
names_none = []

take_none : (i : ℕ) → take i names_none ≡ names_none
take_none zero = refl
take_none (suc i) = refl

block_before_same : (r i : ℕ) (ops : Ops) (more : List Inner) → before_place r 0 more ≡ []
    → ((j : ℕ) → before_place r j more ≡ []) → before_place r i (block_inner r ops more) ≡ take i (heads ops)
block_before_same r i no_ops more z h = h i ∙ sym (take_none i)
block_before_same r zero (op n k ds os ts rs rest) more z h =
    let a : nat_lt r r ≡ false = not_lt r r (omega arith) in
    let b : eqb r r ≡ true = eq-eqb r r refl in
    rw (a, b) refl
block_before_same r (suc i) (op n k ds os ts rs rest) more z h =
    let a : nat_lt r r ≡ false = not_lt r r (omega arith) in
    let b : eqb r r ≡ true = eq-eqb r r refl in
    let c : suc i - 1 ≡ i = omega arith in
    let d : eqb (suc i) 0 ≡ false = ne_eqb (suc i) 0 (λ e. omega arith) in
    rw (a, b, d) (ap (λ q. n ∷ before_place r q (block_inner r rest more)) c
    ∙ ap (λ l. n ∷ l) (block_before_same r i rest more z h))

block_before_less : (r i j : ℕ) (ops : Ops) (more : List Inner) → j < r
    → before_place r i (block_inner j ops more) ≡ heads ops ++ before_place r i more
block_before_less r i j no_ops more h = refl
block_before_less r i j (op n k ds os ts rs rest) more h =
    let a : nat_lt r j ≡ false = not_lt r j (omega arith) in
    let b : eqb j r ≡ false = ne_eqb j r (λ e. omega arith) in
    rw (a, b) (ap (λ l. n ∷ l) (block_before_less r i j rest more h))

block_before_more : (r i j : ℕ) (ops : Ops) (more : List Inner) → r < j → before_place r i more ≡ []
    → before_place r i (block_inner j ops more) ≡ []
block_before_more r i j no_ops more h z = z
block_before_more r i j (op n k ds os ts rs rest) more h z = (let a = lt_true r j h in rw a refl)

later_before : (r i j : ℕ) (rs : Regions) → r < j → before_place r i (inner_of j rs) ≡ []
later_before r i j no_regions h = refl
later_before r i j (region args ops rest) h =
    block_before_more r i j ops (inner_of (suc j) rest) h (later_before r i (suc j) rest (omega arith))

pub before_is : (r i j : ℕ) (rs : Regions) → InRange r i rs
    → before_place (j + r) i (inner_of j rs) ≡ kids_before r i rs
before_is r i j no_regions h = absurd h
before_is zero i j (region args ops rest) h =
    let e : j + 0 ≡ j = omega arith in
    rw e (block_before_same j i ops (inner_of (suc j) rest) (later_before j 0 (suc j) rest (omega arith))
    (λ k. later_before j k (suc j) rest (omega arith)))
before_is (suc r) i j (region args ops rest) h =
    let e : j + suc r ≡ suc j + r = omega arith in
    block_before_less (j + suc r) i j ops (inner_of (suc j) rest) (omega arith)
    ∙ ap (λ l. heads ops ++ l) (ap (λ q. before_place q i (inner_of (suc j) rest)) e ∙ before_is r i (suc j) rest h)

last_is : (ns : List OpName) (n : OpName) → last_or (Some n) ns ≡ last_name (n ∷ ns)
last_is [] n = refl
last_is (m ∷ ns) n = last_is ns m

pub last_or_is : (ns : List OpName) → last_or None ns ≡ last_name ns
last_or_is [] = refl
last_or_is (n ∷ ns) = last_is ns n

pub stands_at : (p : OpName) (r i : ℕ) (root t : Tree) (ks : List Inner) (sibling : Option OpName)
    → OpsDistinct (cons root no_ops) → tree_find p root ≡ Some t → ks ≡ inner_of 0 t.regions
    → OpsWhere p (InRange r i) (cons root no_ops) → sibling ≡ last_or None (before_place r i ks)
    → OpsWhere p (StandsAt r i sibling) (cons root no_ops)
stands_at p r i root t ks sibling d e k w s =
    let f = found_is p root ∙ e in
    let range : InRange r i t.regions = where_found p (InRange r i) (cons root no_ops) t w f in
    let z : 0 + r ≡ r = omega arith in
    let b : before_place r i (inner_of 0 t.regions) ≡ kids_before r i t.regions =
    ap (λ q. before_place q i (inner_of 0 t.regions)) (sym z) ∙ before_is r i 0 t.regions range
    in
    found_where p (StandsAt r i sibling) (cons root no_ops) t d f (record {
      in_range = range;
      before = sym (s ∙ ap (λ l. last_or None (before_place r i l)) k ∙ ap (last_or None) b
          ∙ last_or_is (kids_before r i t.regions));
    })

-- ---- regions rise

abbrev AllFrom : ℕ → List Inner → Type 0
AllFrom r [] = Unit {0}
AllFrom r (k ∷ ks) = (r ≤ k.region) × AllFrom r ks

abbrev Rises : List Inner → Type 0
Rises [] = Unit {0}
Rises (k ∷ ks) = AllFrom k.region ks × Rises ks

from_less : (r q : ℕ) (ks : List Inner) → q ≤ r → AllFrom r ks → AllFrom q ks
from_less r q [] h a = tt
from_less r q (k ∷ ks) h a = ((let z = a.0 in omega arith), from_less r q ks h a.1)

block_from : (r : ℕ) (ops : Ops) (more : List Inner) → AllFrom r more → AllFrom r (block_inner r ops more)
block_from r no_ops more a = a
block_from r (op n k ds os ts rs rest) more a = (omega arith, block_from r rest more a)

block_rises : (r : ℕ) (ops : Ops) (more : List Inner) → AllFrom r more → Rises more → Rises (block_inner r ops more)
block_rises r no_ops more a h = h
block_rises r (op n k ds os ts rs rest) more a h = (block_from r rest more a, block_rises r rest more a h)

inner_from : (j : ℕ) (rs : Regions) → AllFrom j (inner_of j rs)
inner_from j no_regions = tt
inner_from j (region args ops rest) =
    block_from j ops (inner_of (suc j) rest)
    (from_less (suc j) j (inner_of (suc j) rest) (omega arith) (inner_from (suc j) rest))

inner_rises : (j : ℕ) (rs : Regions) → Rises (inner_of j rs)
inner_rises j no_regions = tt
inner_rises j (region args ops rest) =
    block_rises j ops (inner_of (suc j) rest)
    (from_less (suc j) j (inner_of (suc j) rest) (omega arith) (inner_from (suc j) rest)) (inner_rises (suc j) rest)

rises_behind : (us : List Inner) (k : Inner) (vs : List Inner) → Rises (us ++ k ∷ vs) → AllFrom k.region vs × Rises vs
rises_behind [] k vs h = h
rises_behind (u ∷ us) k vs h = rises_behind us k vs h.1

none_from : (r q : ℕ) (ks : List Inner) → q < r → AllFrom r ks → names_in q ks ≡ []
none_from r q [] h a = refl
none_from r q (k ∷ ks) h a =
    let e = ne_eqb k.region q (λ z. let w = a.0 in omega arith) in
    rw e (none_from r q ks h a.1)

-- the first one behind, where it has the region, and else none
pub next_in : (rs : Regions) (us : List Inner) (n : OpName) (r : ℕ) (vs : List Inner)
    → inner_of 0 rs ≡ us ++ record { name = n; region = r } ∷ vs → (k : Inner) (ks : List Inner) → vs ≡ k ∷ ks
    → (k.region ≡ r → first_item (names_in r vs) ≡ Some k.name)
    × ((k.region ≡ r → ⊥) → first_item (names_in r vs) ≡ None)
next_in rs us n r vs e k ks q =
    let me : Inner = record { name = n; region = r } in
    let b = rises_behind us me vs (rw e at (inner_rises 0 rs)) in
    let a : AllFrom r (k ∷ ks) = rw q at b.0 in
    let c : Rises (k ∷ ks) = rw q at b.1 in (
      (λ z. let w = eq-eqb k.region r z in rw (q, w) refl),
      (λ z. let w = ne_eqb k.region r z in
          let y = none_from k.region r ks (let x = a.0 in omega arith) c.0 in
          rw (q, w, y) refl),
    )
