-- A live operation is found, with its node and links.
use Rattle.xf_ir.specs.RuleBlocks.{block_args}
use Rattle.std.proofs.Common.{◌≡◌, ℕ, suc, ◌<◌, List, length, slice_index_or, sym}
use Rattle.std.proofs.Common.{◌∙◌, ap, refl, true, false, eqb, inl, inr}
use Rattle.std.specs.Prelude.{Option, Some, None, option_map}
use Rattle.std.proofs.lemmas.List.{get_or_read}
use Rattle.xf_arena_bed.specs.declared.bed.Bed.TheInside.{Inside}
use Rattle.xf_arena_bed.specs.Value.{Layout, seat_at}
use Rattle.xf_arena_bed.specs.Seat.{seat_of}
use Rattle.xf_arena_bed.specs.View.{layout_of, IsBed}
use Rattle.xf_arena_bed.proofs.CloseLemmas.{seat_is}
use Rattle.std.proofs.lemmas.Bool.{eq-eqb, cases_Bool, or_parts}
use Rattle.xf_ir.specs.declared.name.OpName.{OpName}
use Rattle.xf_ir.specs.Tree.{Ops, no_ops, op, Regions, no_regions, region, Tree, cons}
use Rattle.xf_ir.specs.Walk.{ops_find, regions_find}
use Rattle.xf_arena_bed.specs.declared.node.Node.{Node}
use Rattle.xf_arena_bed.specs.Home.{Home}
use Rattle.xf_arena_tree.specs.Names.{kids, ops_has, regions_has}
use Rattle.xf_arena_bed.specs.Sits.{Nodes, node_at, holds, place, Sits, home_of, OpsSit}
use Rattle.xf_arena_bed.specs.Sits.{RegionsSit, Holds}
use Rattle.xf_arena_bed.specs.Finds.{shown_node, shown_tree}
use Rattle.xf_arena_tree.proofs.WithoutLemmas.{parts3}
use Rattle.xf_arena_bed.proofs.LeafLemmas.{same_name, place_is}

mutual
  pub ops_lost : (x : OpName) (ops : Ops) → ops_has x ops ≡ false → ops_find x ops ≡ None
  ops_lost x no_ops h = refl
  ops_lost x (op n k ds os ts rs rest) h =
      let p = parts3 (eqb n.0 x.0) (regions_has x rs) (ops_has x rest) h in
      rw (p.0, regions_lost x rs p.1.0, ops_lost x rest p.1.1) refl

  pub regions_lost : (x : OpName) (rs : Regions) → regions_has x rs ≡ false → regions_find x rs ≡ None
  regions_lost x no_regions h = refl
  regions_lost x (region args ops rest) h =
      let p = or_parts (ops_has x ops) (regions_has x rest) h in
      rw (ops_lost x ops p.0, regions_lost x rest p.1) refl

-- found at its place
pub record Found (nodes : Nodes) (next : List ℕ) (n : OpName) (t : Tree) : Type 0 where
  pub home : Option Home
  pub name : t.name ≡ n
  pub sits : Sits nodes next home t.name t.kind t.attrs t.operands t.results (block_args t.regions) (kids t.regions)
  pub inner : RegionsSit nodes next t.name 0 t.regions

mutual
  pub ops_found : (nodes : Nodes) (next : List ℕ) (home : Option Home) (ops : Ops) (x : OpName)
      → OpsSit nodes next home ops → ops_has x ops ≡ true
      → (t : Tree) × ((ops_find x ops ≡ Some t) × Found nodes next x t)
  ops_found nodes next home no_ops x s h = cc
  ops_found nodes next home (op n k ds os ts rs rest) x s h =
      elim (cases_Bool (eqb n.0 x.0)) [
        | inl e ↦ (
          record { name = n; kind = k; attrs = ds; operands = os; results = ts; regions = rs },
          (rw e refl, record { home = home; name = same_name n x e; sits = s.0; inner = s.1.0 }),
        )
        | inr e ↦ elim (cases_Bool (regions_has x rs)) [
          | inl a ↦
              let r = regions_found nodes next n 0 rs x s.1.0 a in
              (r.0, (rw (e, r.1.0) refl, r.1.1))
          | inr a ↦
              let b : ops_has x rest ≡ true = rw (e, a) at h in
              let r = ops_found nodes next home rest x s.1.1 b in
              (r.0, (rw (e, regions_lost x rs a, r.1.0) refl, r.1.1))
        ]
      ]

  pub regions_found : (nodes : Nodes) (next : List ℕ) (n : OpName) (i : ℕ) (rs : Regions) (x : OpName)
      → RegionsSit nodes next n i rs → regions_has x rs ≡ true
      → (t : Tree) × ((regions_find x rs ≡ Some t) × Found nodes next x t)
  regions_found nodes next n i no_regions x s h = cc
  regions_found nodes next n i (region args ops rest) x s h =
      elim (cases_Bool (ops_has x ops)) [
        | inl a ↦ let r = ops_found nodes next (home_of nodes n i) ops x s.0 a in (r.0, (rw r.1.0 refl, r.1.1))
        | inr a ↦
            let b : regions_has x rest ≡ true = rw a at h in
            let r = regions_found nodes next n (suc i) rest x s.1 b in
            (r.0, (rw (ops_lost x ops a, r.1.0) refl, r.1.1))
      ]

unsome_node : (x y : Node) → Some x ≡ Some y → x ≡ y
unsome_node x y e = cc

-- the node in a slot shows the operation of its name
pub shows : (nodes : Nodes) (next : List ℕ) (root : ℕ) (t : Tree) (s : ℕ) (x : Node) → Holds nodes next root t
    → node_at nodes s ≡ Some x → (u : Tree)
    × ((ops_find x.name (cons t no_ops) ≡ Some u) × (shown_node x ≡ shown_tree u))
shows nodes next root t s x h e =
    let f = ops_found nodes next None (cons t no_ops) x.name h.sits (h.known s x e) in
    let w : holds x.name (node_at nodes s) ≡ true = rw e (eq-eqb x.name.0 x.name.0 refl) in
    let p = place_is nodes next root t x.name s h w in
    let q : place f.0.name nodes ≡ s = ap (λ n. place n nodes) f.1.1.name ∙ p.1 in
    let z = sym e ∙ ap (node_at nodes) (sym q) ∙ f.1.1.sits.node in
    (f.0, (f.1.0, ap shown_node (unsome_node x _ z)))

pub get_shows : (a : Inside) (v : Layout) (s serial : ℕ) (y : Option Node) (x : Node) → IsBed a → layout_of a ≡ v
    → s < length a.nodes.items → y ≡ slice_index_or a.nodes.items s y → y ≡ Some x → x.name.0 ≡ serial
    → (seat_at v.seats s ≡ Some (record { 0 = serial }))
    × (Some (shown_node x) ≡ option_map shown_tree (ops_find (record { 0 = serial }) (cons v.root no_ops)))
get_shows a v s serial y x i e w r q k =
    let z : node_at a.nodes.items s ≡ Some x = sym (get_or_read a.nodes.items s y w r None) ∙ q in
    let mk : ℕ → OpName = λ n. record { 0 = n } in
    let nm : x.name ≡ record { 0 = serial } = ap mk k in
    let root : (layout_of a).root ≡ v.root = ap (λ (m : Layout). m.root) e in
    let g = rw root at i.holds in
    let u = shows a.nodes.items a.links a.root v.root s x g z in
    let f : ops_find (record { 0 = serial }) (cons v.root no_ops) ≡ Some u.0 =
    ap (λ n. ops_find n (cons v.root no_ops)) (sym nm) ∙ u.1.0 in (
      ap (λ (m : Layout). seat_at m.seats s) (sym e) ∙ seat_is a.nodes.items s ∙ ap seat_of z
          ∙ ap Some nm,
      ap Some u.1.1 ∙ sym (ap (option_map shown_tree) f),
    )
