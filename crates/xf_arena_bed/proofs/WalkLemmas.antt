-- Where the walk to a place stops.
use Rattle.std.proofs.Common.{◌≡◌, ℕ, ◌<◌, List, [], ◌∷◌, ◌++◌, sym, ◌∙◌, ap, refl, eqb, true, false, arith}
use Rattle.std.specs.Prelude.{Option, Some, None, nat_lt}
use Rattle.std.proofs.lemmas.Bool.{eq-eqb, lt-ltb, le-ltb}
use Rattle.xf_ir.specs.declared.name.OpName.{OpName}
use Rattle.xf_ir.specs.Tree.{Tree, Regions, cons, no_ops}
use Rattle.xf_ir.specs.Walk.{tree_find}
use Rattle.xf_arena_tree.specs.Names.{OpsDistinct}
use Rattle.xf_arena_tree.specs.Without.{OpsWhere}
use Rattle.xf_arena_tree.specs.Puts.{InRange, StandsAt}
use Rattle.xf_arena_tree.specs.Kids.{Inner, inner_of, before_place, last_or, first_item, names_in}
use Rattle.xf_arena_tree.proofs.KidsLemmas.{stands_at, next_in}
use Rattle.xf_arena_bed.specs.declared.node.OpId.{OpId}
use Rattle.xf_arena_bed.specs.declared.kid.Kid.{Kid}
use Rattle.xf_arena_bed.specs.Kids.{inner_kid, inner_kids}
use Rattle.xf_arena_bed.specs.Live.{name_of, names_of}

pub stop_end : (r i : ℕ) (ks : List Kid) → ks ≡ [] → before_place r i (inner_kids ks) ≡ []
stop_end r i ks e = rw e refl

pub stop_past : (r i : ℕ) (ks : List Kid) (k : Kid) (rest : List Kid) → ks ≡ k ∷ rest → r < k.region
    → before_place r i (inner_kids ks) ≡ []
stop_past r i ks k rest e h = (let a = lt-ltb r k.region h in rw (e, a) refl)

pub stop_here : (r i : ℕ) (ks : List Kid) (k : Kid) (rest : List Kid) → ks ≡ k ∷ rest → k.region ≡ r → i ≡ 0
    → before_place r i (inner_kids ks) ≡ []
stop_here r i ks k rest e h z =
    let a : nat_lt r k.region ≡ false = le-ltb r k.region (omega arith) in
    let b = eq-eqb k.region r h in
    let d : eqb i 0 ≡ true = eq-eqb i 0 z in
    rw (e, a, b, d) refl

pub sibling_place : (p : OpName) (r i left : ℕ) (root : Tree) (kids init now : List Kid) (before : Option OpId)
    → OpsDistinct (cons root no_ops) → (t : Tree) × (tree_find p root ≡ Some t)
    → ((t : Tree) → tree_find p root ≡ Some t → inner_kids kids ≡ inner_of 0 t.regions)
    → OpsWhere p (InRange r i) (cons root no_ops) → init ≡ kids
    → last_or (names_of before) (before_place r left (inner_kids now))
    ≡ last_or None (before_place r i (inner_kids init))
    → before_place r left (inner_kids now) ≡ [] → OpsWhere p (StandsAt r i (names_of before)) (cons root no_ops)
sibling_place p r i left root kids init now before d f all w e told stop =
    let s : names_of before ≡ last_or None (before_place r i (inner_kids kids)) =
    sym (ap (last_or (names_of before)) stop) ∙ told ∙ ap (λ l. last_or None (before_place r i (inner_kids l))) e
    in
    stands_at p r i root f.0 (inner_kids kids) (names_of before) d f.1 (all f.0 f.1) w s

some_inner : (a b : Inner) → Some a ≡ Some b → a ≡ b
some_inner a b e = cc

pub after_same : (rs : Regions) (us : List Inner) (n : OpName) (r : ℕ) (vs : List Inner)
    → inner_of 0 rs ≡ us ++ record { name = n; region = r } ∷ vs → (y : Option Kid) (k : Kid) → y ≡ Some k
    → inner_kid y ≡ first_item vs → k.region ≡ r → Some (name_of k.id) ≡ first_item (names_in r vs)
after_same rs us n r [] e y k q w h = (let z : inner_kid (Some k) ≡ None = rw q at w in cc)
after_same rs us n r (x ∷ xs) e y k q w h =
    let z = some_inner (record { name = name_of k.id; region = k.region }) x (rw q at w) in
    let g : x.region ≡ r = sym (ap (λ (i : Inner). i.region) z) ∙ h in
    ap (λ (i : Inner). Some i.name) z ∙ sym ((next_in rs us n r (x ∷ xs) e x xs refl).0 g)

pub after_other : (rs : Regions) (us : List Inner) (n : OpName) (r : ℕ) (vs : List Inner)
    → inner_of 0 rs ≡ us ++ record { name = n; region = r } ∷ vs → (y : Option Kid) (k : Kid) → y ≡ Some k
    → inner_kid y ≡ first_item vs → (k.region ≡ r → ⊥) → first_item (names_in r vs) ≡ None
after_other rs us n r [] e y k q w h = refl
after_other rs us n r (x ∷ xs) e y k q w h =
    let z = some_inner (record { name = name_of k.id; region = k.region }) x (rw q at w) in
    (next_in rs us n r (x ∷ xs) e x xs refl).1 (λ g. h (ap (λ (i : Inner). i.region) z ∙ g))

pub after_none : (r : ℕ) (vs : List Inner) (y : Option Kid) → y ≡ None → inner_kid y ≡ first_item vs
    → first_item (names_in r vs) ≡ None
after_none r [] y q w = refl
after_none r (x ∷ xs) y q w = (let z : None ≡ Some x = rw q at w in cc)
