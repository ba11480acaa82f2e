-- The nodes and links once a leaf is taken out hold the tree without it.
use Rattle.std.proofs.Common.{◌≡◌, ℕ, suc, ◌+◌, ◌*◌, ◌<◌, List, length, slice_index}
use Rattle.std.proofs.Common.{slice_set, sym, ◌∙◌, ap, arith, refl, true, false}
use Rattle.std.proofs.Common.{eqb, ◌||◌, inl, inr}
use Rattle.std.specs.Prelude.{Option, Some, None}
use Rattle.std.proofs.lemmas.List.{get_or-set_same, get_or-set_other, length-set}
use Rattle.std.proofs.lemmas.Bool.{cases_eq, eqb-true, eqb-false, ne_eqb, or_cases}
use Rattle.std.proofs.lemmas.Bool.{false_from_ne_true}
use Rattle.xf_ir.specs.declared.name.OpName.{OpName}
use Rattle.xf_ir.specs.Tree.{Ops, no_ops, op, Regions, no_regions, region, Tree, cons}
use Rattle.xf_ir.specs.Count.{ops_count, tree_count}
use Rattle.xf_rings.specs.Ring.{unlinked, After}
use Rattle.xf_arena_bed.specs.declared.node.Node.{Node}
use Rattle.xf_arena_bed.specs.Home.{Home}
use Rattle.xf_arena_tree.specs.Names.{ops_has, regions_has}
use Rattle.xf_arena_bed.specs.Sits.{Nodes, node_at, holds, place, item, item_of, home_of, OpsSit}
use Rattle.xf_arena_bed.specs.Sits.{RegionsSit, Holds}
use Rattle.xf_arena_tree.specs.Without.{tree_without, OpsLeaf}
use Rattle.xf_arena_bed.proofs.PlaceLemmas.{sits_placed, Placed, one_name, place_kept, place_within}
use Rattle.xf_arena_tree.proofs.WithoutLemmas.{ops_kept, ops_distinct, ops_fewer}
use Rattle.xf_arena_bed.proofs.CutLemmas.{Cut, ops_cut}

pub same_name : (n o : OpName) → eqb n.0 o.0 ≡ true → n ≡ o
same_name n o e = let mk : ℕ → OpName = λ x. record { 0 = x } in ap mk (eqb-true n.0 o.0 e)

pub holder : (n : OpName) (y : Option Node) → holds n y ≡ true → (z : Node) × ((y ≡ Some z) × (z.name.0 ≡ n.0))
holder n None h = cc
holder n (Some z) h = (z, (refl, eqb-true z.name.0 n.0 h))

pub other_name : (n o : OpName) (y : Option Node) → holds o y ≡ true → eqb n.0 o.0 ≡ false → holds n y ≡ false
other_name n o y h f = false_from_ne_true (holds n y) (λ t. eqb-false n.0 o.0 f (one_name n o y t h))

-- each operation of the tree has a slot
mutual
  pub ops_placed : (nodes : Nodes) (next : List ℕ) (home : Option Home) (ops : Ops) (x : OpName)
      → OpsSit nodes next home ops → ops_has x ops ≡ true → Placed nodes x
  ops_placed nodes next home no_ops x s h = cc
  ops_placed nodes next home (op n k ds os ts rs rest) x s h =
      elim (or_cases (eqb n.0 x.0) (regions_has x rs || ops_has x rest) h) [
        | inl a ↦ rw (← same_name n x a) (sits_placed nodes next home n _ s.0.node refl)
        | inr a ↦ elim (or_cases (regions_has x rs) (ops_has x rest) a) [
          | inl b ↦ regions_placed nodes next n 0 rs x s.1.0 b
          | inr b ↦ ops_placed nodes next home rest x s.1.1 b
        ]
      ]

  pub regions_placed : (nodes : Nodes) (next : List ℕ) (n : OpName) (r : ℕ) (rs : Regions) (x : OpName)
      → RegionsSit nodes next n r rs → regions_has x rs ≡ true → Placed nodes x
  regions_placed nodes next n r no_regions x s h = cc
  regions_placed nodes next n r (region args ops rest) x s h =
      elim (or_cases (ops_has x ops) (regions_has x rest) h) [
        | inl b ↦ ops_placed nodes next (home_of nodes n r) ops x s.0 b
        | inr b ↦ regions_placed nodes next n (suc r) rest x s.1 b
      ]

-- the slot that holds a name is the name's
pub place_is : (nodes : Nodes) (next : List ℕ) (root : ℕ) (t : Tree) (o : OpName) (s : ℕ) → Holds nodes next root t
    → holds o (node_at nodes s) ≡ true → Placed nodes o × (place o nodes ≡ s)
place_is nodes next root t o s h e =
    let z = holder o (node_at nodes s) e in
    let known : ops_has z.0.name (cons t no_ops) ≡ true = h.known s z.0 z.1.0 in
    let mk : ℕ → OpName = λ x. record { 0 = x } in
    let q : z.0.name ≡ o = ap mk z.1.1 in
    let p : Placed nodes o = ops_placed nodes next None (cons t no_ops) o h.sits (rw q at known) in
    let y = holder o (node_at nodes (place o nodes)) p in
    (p, h.apart.same (place o nodes) s y.0 z.0 y.1.0 z.1.0 (y.1.1 ∙ sym z.1.1))

-- a node that is still there was there
left : (nodes : Nodes) (s i : ℕ) (x : Node) → s < length nodes → node_at (slice_set nodes s None) i ≡ Some x
    → (i ≡ s → ⊥) × (node_at nodes i ≡ Some x)
left nodes s i x h e =
    elim (cases_eq i s) [
      | inl q ↦ let w : None ≡ Some x = sym (get_or-set_same nodes s None None h) ∙ (rw q at e) in absurd (cc)
      | inr q ↦ (q, sym (get_or-set_other nodes s i None None q) ∙ e)
    ]

pub holds_cut : (nodes : Nodes) (next : List ℕ) (root : ℕ) (t : Tree) (o : OpName) (s p : ℕ)
    → Holds nodes next root t → eqb t.name.0 o.0 ≡ false → OpsLeaf o (cons t no_ops)
    → holds o (node_at nodes s) ≡ true → After next p (item s)
    → Holds (slice_set nodes s None) (unlinked p (item s) next) root (tree_without o t)
holds_cut nodes next root t o s p h f l e a =
    let pl = place_is nodes next root t o s h e in
    let same : item_of nodes o ≡ item s = ap item pl.1 in
    let within : s < length nodes = omega (arith, place_within nodes o pl.0) in
    let places : (n : OpName) → eqb n.0 o.0 ≡ false
    → place n (slice_set nodes s None) ≡ place n nodes =
    λ n g. place_kept nodes n s None (other_name n o (node_at nodes s) e g) refl in
    let cut : Cut nodes (slice_set nodes s None) next (unlinked p (item s) next) o = record {
      before = p;
      size = h.size;
      placed = pl.0;
      after = rw same a;
      links = rw same refl;
      places = places;
      nodes_kept = λ n q g. get_or-set_other nodes s (place n nodes) None None
          (λ i. eqb-false n.0 o.0 g (one_name n o (node_at nodes s) (rw i at q) e));
    } in
    let sits : OpsSit (slice_set nodes s None) (unlinked p (item s) next) None (cons (tree_without o t) no_ops) =
    rw f at (ops_cut nodes _ next _ o cut None (cons t no_ops) h.sits h.distinct) in
    record {
      sits = sits;
      known = λ i x q.
          let w = left nodes s i x within q in
          let ne : eqb o.0 x.name.0 ≡ false = ne_eqb o.0 x.name.0 (λ k.
          let z = holder o (node_at nodes s) e in
          w.0 (h.apart.same i s x z.0 w.1 z.1.0 (sym k ∙ sym z.1.1))) in
          rw f at (ops_kept x.name o (cons t no_ops) l ne (h.known i x w.1));
      apart = record {
        same = λ i j x y q r k. h.apart.same i j x y (left nodes s i x within q).1
            (left nodes s j y within r).1 k;
      };
      distinct = rw f at (ops_distinct o (cons t no_ops) h.distinct);
      size = length-set (slice_set next p (slice_index next (item s))) (item s) (item s)
          ∙ length-set next p (slice_index next (item s)) ∙ h.size ∙ ap (λ k. 2 * k) (sym (length-set nodes s None));
      top = h.top ∙ sym (places t.name f);
    }

pub count_cut : (nodes : Nodes) (next : List ℕ) (root : ℕ) (t : Tree) (o : OpName) (s : ℕ) → Holds nodes next root t
    → eqb t.name.0 o.0 ≡ false → OpsLeaf o (cons t no_ops) → holds o (node_at nodes s) ≡ true
    → tree_count (tree_without o t) + 1 ≡ tree_count t
count_cut nodes next root t o s h f l e =
    let z = holder o (node_at nodes s) e in
    let mk : ℕ → OpName = λ x. record { 0 = x } in
    let q : z.0.name ≡ o = ap mk z.1.1 in
    let has : ops_has o (cons t no_ops) ≡ true = rw q at (h.known s z.0 z.1.0) in
    let w : ops_count (cons (tree_without o t) no_ops) + 1 ≡ ops_count (cons t no_ops) =
    rw f at (ops_fewer o (cons t no_ops) h.distinct l has) in
    omega arith
