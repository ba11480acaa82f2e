-- What the node of a live operation says of where it stands.
use Rattle.std.proofs.Common.{◌≡◌, ℕ, suc, ◌<◌, ◌^◌, List, [], ◌∷◌, length, slice_index_or, sym, ◌∙◌, ap, arith}
use Rattle.std.proofs.Common.{refl}
use Rattle.std.proofs.Common.{true, false, eqb, inl, inr}
use Rattle.std.specs.Prelude.{Option, Some, None, IfSome, IfNone}
use Rattle.std.proofs.lemmas.Bool.{cases_Bool, eqb-true}
use Rattle.std.proofs.lemmas.List.{get_or_read}
use Rattle.xf_ir.specs.declared.name.OpName.{OpName}
use Rattle.xf_ir.specs.Tree.{Tree, cons, no_ops}
use Rattle.xf_ir.specs.Walk.{tree_find}
use Rattle.xf_ir.specs.Spots.{spot_at}
use Rattle.xf_arena_tree.specs.Names.{ops_has}
use Rattle.xf_arena_tree.specs.Kids.{Inner, inner_of}
use Rattle.xf_arena_tree.proofs.SplitLemmas.{find_has}
use Rattle.xf_arena_bed.specs.declared.bed.Bed.TheInside.{Inside}
use Rattle.xf_arena_bed.specs.declared.node.Node.{Node}
use Rattle.xf_arena_bed.specs.declared.node.OpId.{OpId}
use Rattle.xf_arena_bed.specs.declared.kid.Kid.{Kid}
use Rattle.xf_arena_bed.specs.Home.{Home}
use Rattle.xf_arena_bed.specs.Homes.{block_of, tree_holder, holder_named, index_of_spot, tree_index, count_before}
use Rattle.xf_arena_bed.specs.Kids.{inner_kids}
use Rattle.xf_arena_bed.specs.Live.{name_of, IsLive}
use Rattle.xf_arena_bed.specs.Seat.{seat_of}
use Rattle.xf_arena_bed.specs.Sits.{Nodes, node_at, place, id_at, home_of, Holds}
use Rattle.xf_arena_bed.specs.Value.{Layout, seat_at}
use Rattle.xf_arena_bed.specs.View.{layout_of, IsBed}
use Rattle.xf_arena_bed.proofs.CloseLemmas.{seat_is}
use Rattle.xf_arena_bed.proofs.HeldLemmas.{IsKid, tree_held, root_unlocated}
use Rattle.xf_arena_bed.proofs.KidRows.{KidNode, AllKidNodes, kid_items, find_is, row_of, whole}
use Rattle.xf_arena_bed.proofs.LeafLemmas.{holder, ops_placed}
use Rattle.xf_arena_bed.proofs.PlaceLemmas.{place_within}
use Rattle.xf_arena_bed.proofs.SpotLemmas.{stands}

kid_node : (nodes : Nodes) (p x : OpName) (r : ℕ) (ks : List Inner) → AllKidNodes nodes p ks → IsKid x r ks
    → KidNode nodes p (record { name = x; region = r })
kid_node nodes p x r [] a h = absurd h
kid_node nodes p x r (k ∷ ks) a h = elim h [
  | inl e ↦ rw (← e) a.0
  | inr w ↦ kid_node nodes p x r ks a.1 w.1
]

some_node : (a b : Node) → Some a ≡ Some b → a ≡ b
some_node a b e = cc

-- each operation of the tree is live in its slot
pub placed_live : (a : Inside) (v : Layout) (o : OpName) → IsBed a → layout_of a ≡ v
    → ops_has o (cons v.root no_ops) ≡ true → IsLive v (id_at a.nodes.items o)
placed_live a v o i e has =
    let nodes = a.nodes.items in
    let root : (layout_of a).root ≡ v.root = ap (λ (m : Layout). m.root) e in
    let h : Holds nodes a.links a.root v.root = rw root at i.holds in
    let placed = ops_placed nodes a.links None (cons v.root no_ops) o h.sits has in
    let z = holder o (node_at nodes (place o nodes)) placed in
    let mk : ℕ → OpName = λ j. record { 0 = j } in
    let named : z.0.name ≡ o = ap mk z.1.1 in
    ap (λ (m : Layout). seat_at m.seats (place o nodes)) (sym e) ∙ seat_is nodes (place o nodes) ∙ ap seat_of z.1.0
    ∙ ap (λ (n : OpName). Some n) named

-- where an operation stands, by its node
pub record Housed (v : Layout) (id : OpId) (home : Option Home) : Type 0 where
  pub live : IfSome home (λ h. IsLive v h.0)
  pub holder : holder_named home ≡ tree_holder (name_of id) v.root
  pub inner : IfSome home (λ h. eqb v.root.name.0 id.serial ≡ false)
  pub root : IfNone home (eqb v.root.name.0 id.serial ≡ true)

housed_at : (v : Layout) (id : OpId) (home h : Option Home) → home ≡ h → Housed v id h → Housed v id home
housed_at v id home h e w = rw e w

housed_root : (v : Layout) (id : OpId) → tree_holder (name_of id) v.root ≡ None → eqb v.root.name.0 id.serial ≡ true
    → Housed v id None
housed_root v id q e = record { live = tt; holder = sym q; inner = tt; root = e }

housed_inner : (v : Layout) (id : OpId) (h : Home) → IsLive v h.0
    → tree_holder (name_of id) v.root ≡ Some (record { name = name_of h.0; region = h.1 })
    → eqb v.root.name.0 id.serial ≡ false → Housed v id (Some h)
housed_inner v id h l q f = record { live = l; holder = sym q; inner = f; root = tt }

pub housed : (a : Inside) (v : Layout) (id : OpId) (y : Option Node) (x : Node) → IsBed a → layout_of a ≡ v
    → IsLive v id → y ≡ slice_index_or a.nodes.items id.slot y → y ≡ Some x → Housed v id x.parent
housed a v id y x i e live r q =
    let nodes = a.nodes.items in
    let o = name_of id in
    let s = stands a v id i e live in
    let within : id.slot < length nodes = rw s.place at (place_within nodes o s.placed) in
    let z : node_at nodes id.slot ≡ Some x = sym (get_or_read nodes id.slot y within r None) ∙ q in
    elim (cases_Bool (eqb v.root.name.0 id.serial)) [
      | inl t ↦ (
          let mk : ℕ → OpName = λ j. record { 0 = j } in
          let named : v.root.name ≡ o = ap mk (eqb-true v.root.name.0 id.serial t) in
          let at : place v.root.name nodes ≡ id.slot = ap (λ n. place n nodes) named ∙ s.place in
          let same = some_node x _ (sym z ∙ ap (node_at nodes) (sym at) ∙ s.holds.sits.0.node) in
          let none = root_unlocated o v.root s.holds.distinct t in
          housed_at v id x.parent None (ap (λ (n : Node). n.parent) same)
          (housed_root v id (ap (λ w. block_of (spot_at w)) none) t))
      | inr f ↦ (
          let g = tree_held o v.root s.holds.distinct s.has f in
          let row = row_of a v g.0.parent g.1.holder i e g.1.found in
          let k = kid_node nodes g.0.parent o g.0.region _ row.nodes_are g.1.kid in
          let same = some_node x k.node (sym z ∙ ap (node_at nodes) (sym s.place) ∙ k.at) in
          let has = find_has g.0.parent (cons v.root no_ops) g.1.holder (find_is g.0.parent v.root ∙ g.1.found) in
          housed_at v id x.parent (home_of nodes g.0.parent g.0.region) (ap (λ (n : Node). n.parent) same ∙ k.home)
          (housed_inner v id (id_at nodes g.0.parent, g.0.region) (placed_live a v g.0.parent i e has)
          (ap block_of g.1.located) f))
    ]

-- ---- what one holds is counted

inner_long : (ks : List Kid) → length (inner_kids ks) ≡ length ks
inner_long [] = refl
inner_long (k ∷ ks) = ap suc (inner_long ks)

items_long : (nodes : Nodes) (ks : List Inner) → length (kid_items nodes ks) ≡ length ks
items_long nodes [] = refl
items_long nodes (k ∷ ks) = ap suc (items_long nodes ks)

-- each takes a slot
pub kids_few : (a : Inside) (v : Layout) (id : OpId) (ks : List Kid) → IsBed a → layout_of a ≡ v → IsLive v id
    → (t : Tree) × (tree_find (name_of id) v.root ≡ Some t)
    → ((t : Tree) → tree_find (name_of id) v.root ≡ Some t → inner_kids ks ≡ inner_of 0 t.regions)
    → length ks < 2 ^ 32
kids_few a v id ks i e live f all =
    let nodes = a.nodes.items in
    let w = whole a v id f.0 i e live f.1 in
    let short = w.left.short in
    let size = i.holds.size in
    let few = i.few in
    let long = ap length (all f.0 f.1) in
    omega (arith, ap length w.numbers, items_long nodes (inner_of 0 f.0.regions), inner_long ks)

-- ---- the spot

pub block_parts : (n p : OpName) (r q : ℕ)
    → Some (let b : Inner = record { name = n; region = r } in b)
    ≡ Some (let b : Inner = record { name = p; region = q } in b)
    → (n ≡ p) × (r ≡ q)
block_parts n p r q e =
    let same = some_inner (record { name = n; region = r }) (record { name = p; region = q }) e in
    (ap (λ (b : Inner). b.name) same, ap (λ (b : Inner). b.region) same)
  where
    some_inner : (a b : Inner) → Some a ≡ Some b → a ≡ b
    some_inner a b e = cc

count_of : (x n p : OpName) (r q at : ℕ) (v : Layout) (t : Tree) → n ≡ p → r ≡ q → tree_find p v.root ≡ Some t
    → ((t : Tree) → tree_find n v.root ≡ Some t → at ≡ count_before x r (inner_of 0 t.regions))
    → at ≡ count_before x q (inner_of 0 t.regions)
count_of x n p r q at v t e w f h = (let g = rw (e, w) at h in g t f)

pub index_found : (a : Inside) (v : Layout) (id : OpId) (h : Home) (at : ℕ) → IsBed a → layout_of a ≡ v → IsLive v id
    → holder_named (Some h) ≡ tree_holder (name_of id) v.root
    → ((t : Tree) → tree_find (name_of h.0) v.root ≡ Some t → at ≡ count_before (name_of id) h.1 (inner_of 0 t.regions))
    → at ≡ tree_index (name_of id) v.root
index_found a v id h at i e live q all =
    let o = name_of id in
    let s = stands a v id i e live in
    elim (cases_Bool (eqb v.root.name.0 id.serial)) [
      | inl t ↦ (
          let none = ap (λ w. block_of (spot_at w)) (root_unlocated o v.root s.holds.distinct t) in
          let bad : holder_named (Some h) ≡ None = q ∙ none in
          absurd (cc))
      | inr f ↦ (
          let g = tree_held o v.root s.holds.distinct s.has f in
          let b = block_parts (name_of h.0) g.0.parent h.1 g.0.region (q ∙ ap block_of g.1.located) in
          count_of o (name_of h.0) g.0.parent h.1 g.0.region at v g.1.holder b.0 b.1 g.1.found all
          ∙ sym g.1.at ∙ sym (ap index_of_spot g.1.located))
    ]
