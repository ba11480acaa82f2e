-- The operation behind one in its block.
use Rattle.std.proofs.Common.{◌≡◌, ℕ, zero, suc, ◌+◌, ◌<◌, List, [], ◌∷◌, ◌++◌, sym, ◌∙◌, ap, arith, refl}
use Rattle.std.proofs.Common.{false, eqb, inl, inr}
use Rattle.std.specs.Prelude.{Option, Some, None, slice_get}
use Rattle.std.proofs.lemmas.Bool.{cases_Bool, eq-eqb, ne_eqb}
use Rattle.xf_ir.specs.declared.name.OpName.{OpName}
use Rattle.xf_ir.specs.declared.spot.Spot.{Spot}
use Rattle.xf_ir.specs.Tree.{Ops, no_ops, op, Regions, no_regions, region, Tree}
use Rattle.xf_ir.specs.Walk.{tree_find}
use Rattle.xf_ir.specs.Spots.{spot_at}
use Rattle.xf_arena_tree.specs.Kids.{Inner, block_inner, inner_of, first_item, names_in, heads_at}
use Rattle.xf_arena_tree.specs.Names.{heads}
use Rattle.xf_arena_bed.specs.declared.bed.Bed.TheInside.{Inside}
use Rattle.xf_arena_bed.specs.declared.node.OpId.{OpId}
use Rattle.xf_arena_bed.specs.Homes.{block_of, tree_holder, count_before, kid_name, name_behind, tree_behind}
use Rattle.xf_arena_bed.specs.Live.{name_of, IsLive}
use Rattle.xf_arena_bed.specs.Value.{Layout}
use Rattle.xf_arena_bed.specs.View.{layout_of, IsBed}
use Rattle.xf_arena_bed.proofs.HeldLemmas.{IsKid, Held, tree_held, root_unlocated}
use Rattle.xf_arena_bed.proofs.HomeLemmas.{block_parts}
use Rattle.xf_arena_bed.proofs.SpotLemmas.{stands}

-- ---- the operations of a region, among all

block_same : (r : ℕ) (ops : Ops) (more : List Inner) → names_in r more ≡ []
    → names_in r (block_inner r ops more) ≡ heads ops
block_same r no_ops more h = h
block_same r (op n k ds os ts rs rest) more h =
    let e = eq-eqb r r refl in
    rw e (ap (λ l. n ∷ l) (block_same r rest more h))

block_other : (r q : ℕ) (ops : Ops) (more : List Inner) → (q ≡ r → ⊥)
    → names_in r (block_inner q ops more) ≡ names_in r more
block_other r q no_ops more d = refl
block_other r q (op n k ds os ts rs rest) more d =
    let e = ne_eqb q r d in
    rw e (block_other r q rest more d)

later_none : (r q : ℕ) (rs : Regions) → r < q → names_in r (inner_of q rs) ≡ []
later_none r q no_regions h = refl
later_none r q (region args ops rest) h =
    block_other r q ops (inner_of (suc q) rest) (λ e. omega arith) ∙ later_none r (suc q) rest (omega arith)

in_region : (q r : ℕ) (rs : Regions) → names_in (q + r) (inner_of q rs) ≡ heads_at r rs
in_region q r no_regions = refl
in_region q zero (region args ops rest) =
    let e : q + 0 ≡ q = omega arith in
    rw e (block_same q ops (inner_of (suc q) rest) (later_none q (suc q) rest (omega arith)))
in_region q (suc r) (region args ops rest) =
    let e : q + suc r ≡ suc q + r = omega arith in
    block_other (q + suc r) q ops (inner_of (suc q) rest) (λ z. omega arith)
    ∙ ap (λ i. names_in i (inner_of (suc q) rest)) e ∙ in_region (suc q) r rest

pub names_at : (r : ℕ) (rs : Regions) → names_in r (inner_of 0 rs) ≡ heads_at r rs
names_at r rs =
    let e : r ≡ 0 + r = omega arith in
    ap (λ i. names_in i (inner_of 0 rs)) e ∙ in_region 0 r rs

-- ---- behind one of them

-- what stands before one among these, and behind it
pub record Around (x : OpName) (r : ℕ) (ks : List Inner) : Type 0 where
  pub us : List Inner
  pub vs : List Inner
  pub split : ks ≡ us ++ record { name = x; region = r } ∷ vs
  pub next : slice_get (names_in r ks) (suc (count_before x r ks)) ≡ first_item (names_in r vs)

first_got : (ns : List OpName) → slice_get ns 0 ≡ first_item ns
first_got [] = refl
first_got (n ∷ ns) = refl

around_here : (x : OpName) (r : ℕ) (ks : List Inner) → Around x r (record { name = x; region = r } ∷ ks)
around_here x r ks =
    let e = eq-eqb r r refl in
    let w = eq-eqb x.0 x.0 refl in
    record { us = []; vs = ks; split = refl; next = rw (e, w) (first_got (names_in r ks)) }

around_later : (x : OpName) (r : ℕ) (k : Inner) (ks : List Inner) → eqb k.name.0 x.0 ≡ false → Around x r ks
    → Around x r (k ∷ ks)
around_later x r k ks f a = record {
  us = k ∷ a.us;
  vs = a.vs;
  split = ap (λ l. k ∷ l) a.split;
  next = elim (cases_Bool (eqb k.region r)) [
    | inl e ↦ rw (e, f) a.next
    | inr e ↦ rw (e, f) a.next
  ];
}

around : (x : OpName) (r : ℕ) (ks : List Inner) → IsKid x r ks → Around x r ks
around x r [] h = absurd h
around x r (k ∷ ks) h = elim h [
  | inl e ↦ rw e (around_here x r ks)
  | inr w ↦ around_later x r k ks w.0 (around x r ks w.1)
]

behind_spot : (x : OpName) (root : Tree) (s : Spot) (g : Held x root s) (n : Option OpName)
    → ((t : Tree) (us vs : List Inner) → tree_find t.name root ≡ Some t
    → inner_of 0 t.regions ≡ us ++ record { name = x; region = s.region } ∷ vs → n ≡ first_item (names_in s.region vs))
    → n ≡ tree_behind x root
behind_spot x root s g n h =
    let r = s.region in
    let a = around x r (inner_of 0 g.holder.regions) g.kid in
    let found : tree_find g.holder.name root ≡ Some g.holder = ap (λ n. tree_find n root) g.name ∙ g.found in
    let at : s.at + 1 ≡ suc (count_before x r (inner_of 0 g.holder.regions)) = (let e = g.at in omega arith) in
    let here : kid_name r (s.at + 1) (tree_find s.parent root) ≡ first_item (names_in r a.vs) =
    ap (kid_name r (s.at + 1)) g.found ∙ ap (λ l. slice_get l (s.at + 1)) (sym (names_at r g.holder.regions))
    ∙ ap (slice_get (names_in r (inner_of 0 g.holder.regions))) at ∙ a.next
    in
    h g.holder a.us a.vs found a.split ∙ sym here ∙ sym (ap (λ o. name_behind o root) g.located)

pub behind_found : (a : Inside) (v : Layout) (id : OpId) (p : OpName) (r : ℕ) (n : Option OpName) → IsBed a
    → layout_of a ≡ v → IsLive v id → Some (record { name = p; region = r }) ≡ tree_holder (name_of id) v.root
    → ((t : Tree) (us vs : List Inner) → tree_find t.name v.root ≡ Some t
    → inner_of 0 t.regions ≡ us ++ record { name = name_of id; region = r } ∷ vs → n ≡ first_item (names_in r vs))
    → n ≡ tree_behind (name_of id) v.root
behind_found a v id p r n i e live q next =
    let o = name_of id in
    let s = stands a v id i e live in
    elim (cases_Bool (eqb v.root.name.0 id.serial)) [
      | inl t ↦ (
          let none = ap (λ w. block_of (spot_at w)) (root_unlocated o v.root s.holds.distinct t) in
          let here : Inner = record { name = p; region = r } in
          let bad : Some here ≡ None = q ∙ none in
          absurd (cc))
      | inr f ↦ (
          let g = tree_held o v.root s.holds.distinct s.has f in
          let b = block_parts p g.0.parent r g.0.region (q ∙ ap block_of g.1.located) in
          behind_spot o v.root g.0 g.1 n (rw b.1 at next))
    ]
