-- The last child of a live operation is inside it.
use Rattle.std.proofs.Common.{◌≡◌, ℕ, suc, ◌*◌, ◌/◌, ◌<◌, List, length, slice_index}
use Rattle.std.proofs.Common.{slice_index_or, sym, ◌∙◌, ap, arith, refl, true, false, eqb, ◌||◌, inl, inr}
use Rattle.std.specs.Prelude.{Option, Some, None}
use Rattle.std.proofs.lemmas.Bool.{or_cases}
use Rattle.xf_ir.specs.declared.name.OpName.{OpName}
use Rattle.xf_ir.specs.Tree.{Ops, no_ops, op, Regions, no_regions, region, Tree, cons}
use Rattle.xf_rings.specs.Ring.{After}
use Rattle.xf_arena_bed.specs.declared.node.Node.{Node}
use Rattle.xf_arena_bed.specs.Home.{Home}
use Rattle.xf_arena_tree.specs.Names.{ops_has, regions_has, OpsDistinct}
use Rattle.xf_arena_bed.specs.Sits.{Nodes, node_at, holds, place, head, item_of, home_of, OpsSit}
use Rattle.xf_arena_bed.specs.Sits.{RegionsSit, Holds}
use Rattle.std.proofs.lemmas.List.{get_or_read}
use Rattle.xf_arena_bed.specs.declared.bed.Bed.TheInside.{Inside}
use Rattle.xf_arena_bed.specs.Value.{Layout, seat_at}
use Rattle.xf_arena_bed.specs.View.{layout_of, IsBed}
use Rattle.xf_arena_tree.specs.Without.{OpsLeaf, OpsWhere, RegionsWhere, ops_without, tree_without}
use Rattle.xf_arena_tree.specs.Inner.{IsInner}
use Rattle.xf_arena_bed.proofs.PlaceLemmas.{Placed, sits_placed, one_name}
use Rattle.xf_arena_bed.proofs.LeafLemmas.{same_name, holder, place_is}
use Rattle.xf_arena_bed.proofs.FindLemmas.{ops_found}
use Rattle.xf_arena_bed.proofs.LastLemmas.{Kid, row_last, ops_leaf}
use Rattle.xf_arena_bed.proofs.CloseLemmas.{first_is, seated}
use Rattle.xf_arena_tree.proofs.InnerLemmas.{inside, regions_inside, not_here}

same_kid : (nodes : Nodes) (k : OpName) (rs : Regions) (v : ℕ) → v ≡ item_of nodes k → Placed nodes k
    → Kid nodes rs v → regions_has k rs ≡ true
same_kid nodes k rs v e p q =
    let pl : place k nodes ≡ place q.name nodes =
    (let z : item_of nodes k ≡ item_of nodes q.name = sym e ∙ q.is in omega arith) in
    let nm : k.0 ≡ q.name.0 = one_name k q.name (node_at nodes (place q.name nodes)) (rw pl at p) q.placed in
    let mk : ℕ → OpName = λ i. record { 0 = i } in
    let w : k ≡ q.name = ap mk nm in
    rw w q.has

mutual
  ops_where : (nodes : Nodes) (next : List ℕ) (home : Option Home) (ops : Ops) (o k : OpName) (v : ℕ)
      → length next ≡ 2 * length nodes → OpsSit nodes next home ops → After next v (head (place o nodes))
      → (v ≡ head (place o nodes) → ⊥) → v ≡ item_of nodes k → Placed nodes k
      → OpsWhere o (λ rs. regions_has k rs ≡ true) ops
  ops_where nodes next home no_ops o k v size s w ne e p = tt
  ops_where nodes next home (op n kd ds os ts rs rest) o k v size s w ne e p = (
    (λ t. let q : n ≡ o = same_name n o t in
        same_kid nodes k rs v e p (row_last nodes next n rs v size
        (sits_placed nodes next home n _ s.0.node refl) s.0.row s.1.0 (rw q w) (rw q ne))),
    (
      regions_where nodes next n 0 rs o k v size s.1.0 w ne e p,
      ops_where nodes next home rest o k v size s.1.1 w ne e p,
    ),
  )

  regions_where : (nodes : Nodes) (next : List ℕ) (n : OpName) (r : ℕ) (rs : Regions) (o k : OpName) (v : ℕ)
      → length next ≡ 2 * length nodes → RegionsSit nodes next n r rs → After next v (head (place o nodes))
      → (v ≡ head (place o nodes) → ⊥) → v ≡ item_of nodes k → Placed nodes k
      → RegionsWhere o (λ rs. regions_has k rs ≡ true) rs
  regions_where nodes next n r no_regions o k v size s w ne e p = tt
  regions_where nodes next n r (region args ops rest) o k v size s w ne e p = (
    ops_where nodes next (home_of nodes n r) ops o k v size s.0 w ne e p,
    regions_where nodes next n (suc r) rest o k v size s.1 w ne e p,
  )

root_other : (k o : OpName) (t : Tree) → OpsDistinct (cons t no_ops)
    → OpsWhere o (λ rs. regions_has k rs ≡ true) (cons t no_ops) → eqb t.name.0 o.0 ≡ false
    → ops_has o (cons t no_ops) ≡ true → eqb t.name.0 k.0 ≡ false
root_other k o t d w f h =
    let h2 : (regions_has o t.regions || false) ≡ true = rw f at h in
    let h3 : regions_has o t.regions ≡ true =
    elim (or_cases (regions_has o t.regions) false h2) [ inl a ↦ a | inr a ↦ cc ] in
    let i = regions_inside k o t.regions d.1.1.1.0 w.1.0 h3 in
    not_here (λ x. regions_has x t.regions) t.name k d.0 i.has

pub inner_of : (k o : OpName) (t : Tree) → OpsDistinct (cons t no_ops)
    → OpsWhere o (λ rs. regions_has k rs ≡ true) (cons t no_ops) → eqb t.name.0 o.0 ≡ false
    → ops_has o (cons t no_ops) ≡ true → IsInner k o t
inner_of k o t d w f h =
    let low = root_other k o t d w f h in
    let i = inside k o (cons t no_ops) d w h in
    let cut : ops_without k (cons t no_ops) ≡ cons (tree_without k t) no_ops = rw low refl in
    record {
      low = low;
      below = i.below;
      inside = first_is (tree_without o (tree_without k t)) (tree_without o t) (rw f at (rw cut at i.same_rest));
      fewer = rw cut at i.fewer;
      stays = rw cut at i.stays;
    }

-- the node before a sentinel
pub record Before (nodes : Nodes) (o : OpName) (t : Tree) (v : ℕ) : Type 0 where
  pub kid : Node
  pub at : node_at nodes (v / 2) ≡ Some kid
  pub inner : IsInner kid.name o t

pub before_head : (nodes : Nodes) (next : List ℕ) (root : ℕ) (t : Tree) (o : OpName) (s v : ℕ)
    → Holds nodes next root t → holds o (node_at nodes s) ≡ true → eqb t.name.0 o.0 ≡ false → After next v (head s)
    → (v ≡ head s → ⊥) → Before nodes o t v
before_head nodes next root t o s v h e f w ne =
    let pl = place_is nodes next root t o s h e in
    let z = holder o (node_at nodes s) e in
    let mk : ℕ → OpName = λ i. record { 0 = i } in
    let nm : z.0.name ≡ o = ap mk z.1.1 in
    let has : ops_has o (cons t no_ops) ≡ true = rw nm at (h.known s z.0 z.1.0) in
    let u = ops_found nodes next None (cons t no_ops) o h.sits has in
    let q : place u.0.name nodes ≡ s = ap (λ n. place n nodes) u.1.1.name ∙ pl.1 in
    let kid = row_last nodes next u.0.name u.0.regions v h.size (rw u.1.1.name pl.0) u.1.1.sits.row u.1.1.inner
    (rw q w) (rw q ne) in
    let y = holder kid.name (node_at nodes (place kid.name nodes)) kid.placed in
    let kn : y.0.name ≡ kid.name = ap mk y.1.1 in
    let half : v / 2 ≡ place kid.name nodes = (let z2 = kid.is in omega arith) in
    let wh = ops_where nodes next None (cons t no_ops) o kid.name v h.size h.sits (rw pl.1 w)
    (rw pl.1 ne) kid.is kid.placed in
    record {
      kid = y.0;
      at = ap (node_at nodes) half ∙ y.1.0;
      inner = rw kn (inner_of kid.name o t h.distinct wh f has);
    }

pub kid_none : (a : Inside) (v : Layout) (s : ℕ) (o : OpName) (l : ℕ) → IsBed a → layout_of a ≡ v
    → seat_at v.seats s ≡ Some o → After a.links l (head s) → l ≡ head s → OpsLeaf o (cons v.root no_ops)
kid_none a v s o l i e live w q =
    let root : (layout_of a).root ≡ v.root = ap (λ (m : Layout). m.root) e in
    let h = rw root at i.holds in
    let pl = place_is a.nodes.items a.links a.root v.root o s h (seated a v s o e live) in
    let k : slice_index a.links (head s) ≡ head s = ap (slice_index a.links) (sym q) ∙ w.is in
    ops_leaf a.nodes.items a.links None (cons v.root no_ops) o h.sits (rw pl.1 k)

pub kid_before : (a : Inside) (v : Layout) (s : ℕ) (o : OpName) (l : ℕ) → IsBed a → layout_of a ≡ v
    → seat_at v.seats s ≡ Some o → eqb v.root.name.0 o.0 ≡ false → After a.links l (head s) → (l ≡ head s → ⊥)
    → Before a.nodes.items o v.root l
kid_before a v s o l i e live low w ne =
    let root : (layout_of a).root ≡ v.root = ap (λ (m : Layout). m.root) e in
    let h = rw root at i.holds in
    before_head a.nodes.items a.links a.root v.root o s l h (seated a v s o e live) low w ne

pub kid_at : (nodes : Nodes) (o : OpName) (t : Tree) (l : ℕ) (y : Option Node) → Before nodes o t l
    → l / 2 < length nodes → y ≡ slice_index_or nodes (l / 2) y → (z : Node) × ((y ≡ Some z) × IsInner z.name o t)
kid_at nodes o t l y b w r = (b.kid, (get_or_read nodes (l / 2) y w r None ∙ b.at, b.inner))

pub kid_is : (nodes : Nodes) (o : OpName) (t : Tree) (l : ℕ) (y : Option Node) (x : Node) → Before nodes o t l
    → l / 2 < length nodes → y ≡ slice_index_or nodes (l / 2) y → y ≡ Some x → IsInner x.name o t
kid_is nodes o t l y x b w r e =
    let k = kid_at nodes o t l y b w r in
    let q : k.0 ≡ x = (let z : Some k.0 ≡ Some x = sym k.1.0 ∙ e in cc) in
    rw (← q) k.1.1

pub kid_not_none : (nodes : Nodes) (o : OpName) (t : Tree) (l : ℕ) (y : Option Node) → Before nodes o t l
    → l / 2 < length nodes → y ≡ slice_index_or nodes (l / 2) y → y ≡ None → ⊥
kid_not_none nodes o t l y b w r e =
    let k = kid_at nodes o t l y b w r in
    let z : None ≡ Some k.0 = sym e ∙ k.1.0 in cc
