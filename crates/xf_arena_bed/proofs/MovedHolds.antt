-- The nodes and links once an operation is moved hold the tree in which it is moved.
use Rattle.std.proofs.Common.{◌≡◌, ℕ, ◌*◌, ◌<◌, List, [], ◌∷◌, length}
use Rattle.std.proofs.Common.{slice_index, slice_set, sym, ◌∙◌, ap, refl, Bool, true, false}
use Rattle.std.proofs.Common.{eqb, inl, inr}
use Rattle.std.specs.Prelude.{map, Option, Some, None}
use Rattle.std.proofs.lemmas.List.{get_or-set_same, get_or-set_other, length-set}
use Rattle.std.proofs.lemmas.Bool.{cases_eq, eqb-false, cases_Bool}
use Rattle.xf_ir.specs.RuleBlocks.{block_args}
use Rattle.xf_ir.specs.declared.name.OpName.{OpName}
use Rattle.xf_ir.specs.Tree.{no_ops, Tree, cons}
use Rattle.xf_ir.specs.Walk.{ops_find}
use Rattle.xf_rings.specs.Ring.{unlinked}
use Rattle.xf_arena_bed.specs.declared.node.Node.{Node}
use Rattle.xf_arena_bed.specs.Home.{Home}
use Rattle.xf_arena_tree.specs.Names.{kids, ops_has, regions_has}
use Rattle.xf_arena_tree.specs.Without.{tree_without}
use Rattle.xf_arena_tree.specs.Puts.{tree_put}
use Rattle.xf_arena_tree.proofs.WithoutLemmas.{parts3}
use Rattle.xf_arena_bed.specs.Sits.{Nodes, node_at, holds, place, item, item_of, home_of}
use Rattle.xf_arena_bed.specs.Sits.{OpsSit, Holds}
use Rattle.xf_arena_bed.proofs.PlaceLemmas.{Placed, kids_placed, one_name}
use Rattle.xf_arena_bed.proofs.LeafLemmas.{ops_placed, same_name}
use Rattle.xf_arena_bed.proofs.CutLemmas.{NoneOf, none_kids}
use Rattle.xf_arena_bed.proofs.PutLemmas.{kids_under, ops_put_sit}
use Rattle.xf_arena_bed.proofs.FrameLemmas.{AllPass, Frame, regions_frame}
use Rattle.xf_arena_bed.proofs.FindLemmas.{Found, ops_found}
use Rattle.xf_arena_bed.proofs.HoldsPutLemmas.{first}
use Rattle.xf_arena_bed.proofs.MoveTreeLemmas.{TreeOut, taken_out, TreeMoved, put_again}
use Rattle.xf_arena_bed.proofs.MoveLemmas.{emptied, rehomed, moved_nodes, moved_links, Moving, here, left_sits, stays}
use Rattle.xf_arena_bed.proofs.MoveLemmas.{before_back, row_moved, put_of}
use Rattle.xf_arena_bed.proofs.FieldLemmas.{place_same}

some_node : (a b : Node) → Some a ≡ Some b → a ≡ b
some_node a b e = cc

-- ---- the slots

moved_places : (nodes : Nodes) (s : ℕ) (p : OpName) (r : ℕ) (x : Node) (n : OpName) → node_at nodes s ≡ Some x
    → place n (moved_nodes nodes s p r x) ≡ place n nodes
moved_places nodes s p r x n e = place_same nodes n s (Some (rehomed nodes p r x)) (ap (holds n) e)

-- what is in a slot was there, under the same name
pub was_there : (nodes : Nodes) (s : ℕ) (p : OpName) (r : ℕ) (x : Node) (i : ℕ) (y : Node) → node_at nodes s ≡ Some x
    → s < length nodes → node_at (moved_nodes nodes s p r x) i ≡ Some y
    → (z : Node) × ((node_at nodes i ≡ Some z) × (z.name ≡ y.name))
was_there nodes s p r x i y e l h = elim (cases_eq i s) [
  | inl q ↦ (
      let w : rehomed nodes p r x ≡ y =
      some_node (rehomed nodes p r x) y
      (sym (get_or-set_same nodes s (Some (rehomed nodes p r x)) None l)
      ∙ ap (node_at (moved_nodes nodes s p r x)) (sym q) ∙ h)
      in
      (x, (ap (node_at nodes) q ∙ e, ap (λ (v : Node). v.name) w)))
  | inr q ↦ (y, (sym (get_or-set_other nodes s i (Some (rehomed nodes p r x)) None q) ∙ h, refl))
]

-- ---- the operation that is moved, with what it holds

passes_other : (has : OpName → Bool) (n o : OpName) → has n ≡ true → has o ≡ false → eqb n.0 o.0 ≡ false
passes_other has n o a b = elim (cases_Bool (eqb n.0 o.0)) [
  | inl e ↦ (let z : true ≡ false = sym a ∙ ap has (same_name n o e) ∙ b in cc)
  | inr e ↦ e
]

pass_none : (has : OpName → Bool) (o : OpName) (ns : List OpName) → has o ≡ false → AllPass has ns → NoneOf o ns
pass_none has o [] b a = tt
pass_none has o (n ∷ ns) b a = (passes_other has n o a.0 b, pass_none has o ns b a.1)

inner_frame : (nodes : Nodes) (next : List ℕ) (root : ℕ) (u : Tree) (o p : OpName) (s r i was before : ℕ) (x : Node)
    (has : OpName → Bool) → Moving nodes next root u o p s r i was before x → Placed (emptied nodes s) p → has o ≡ false
    → has p ≡ false → Frame nodes (moved_nodes nodes s p r x) next (moved_links was before s next) has
inner_frame nodes next root u o p s r i was before x has y pl ho hp =
    let w = here nodes next root u o s x y.held y.at y.name in
    let held : holds o (node_at nodes s) ≡ true = rw w.place at w.placed in
    let z = stays nodes next root u o s x p y.held y.at y.name pl in
    record {
      places = λ n h q. moved_places nodes s p r x n y.at;
      kept = λ n h q. get_or-set_other nodes s (place n nodes) (Some (rehomed nodes p r x)) None
          (λ j. eqb-false n.0 o.0 (passes_other has n o h ho) (one_name n o (node_at nodes s) (rw j at q) held));
      rows = λ n ns h q a b c e. row_moved nodes next o p s was before n ns y.after
          (before_back nodes next root u o p s r i was before x y pl) z.placed w.placed w.place
          (passes_other has n p h hp) q a b (pass_none has o ns ho c) e;
    }

moved_sits : (nodes : Nodes) (next : List ℕ) (root : ℕ) (u : Tree) (o p : OpName) (s r i was before : ℕ) (x : Node)
    (t : Tree) → Moving nodes next root u o p s r i was before x → Placed (emptied nodes s) p → Found nodes next o t
    → regions_has o t.regions ≡ false → regions_has p t.regions ≡ false → eqb o.0 p.0 ≡ false
    → OpsSit (moved_nodes nodes s p r x) (moved_links was before s next) (home_of (emptied nodes s) p r)
    (cons t no_ops)
moved_sits nodes next root u o p s r i was before x t y pl f ho hp ne =
    let nodes2 = moved_nodes nodes s p r x in
    let next2 = moved_links was before s next in
    let w = here nodes next root u o s x y.held y.at y.name in
    let z = stays nodes next root u o s x p y.held y.at y.name pl in
    let at : place t.name nodes ≡ s = ap (λ n. place n nodes) f.name ∙ w.place in
    let made : Option Home → Node = λ h. record {
      name = t.name;
      kind = t.kind;
      attrs = t.attrs;
      operands = t.operands;
      results = t.results;
      regions = block_args t.regions;
      parent = h;
    } in
    let x_is : x ≡ made f.home =
    some_node x (made f.home) (sym y.at ∙ ap (node_at nodes) (sym at) ∙ f.sits.node)
    in
    let home : home_of nodes p r ≡ home_of (emptied nodes s) p r = rw z.same refl in
    let new : node_at nodes2 s ≡ Some (made (home_of (emptied nodes s) p r)) =
    get_or-set_same nodes s (Some (rehomed nodes p r x)) None w.within
    ∙ ap (λ (v : Node). Some (rehomed nodes p r v)) x_is ∙ ap (λ h. Some (made h)) home
    in
    let places : (n : OpName) → place n nodes2 ≡ place n nodes = λ n. moved_places nodes s p r x n y.at in
    let items : map (item_of nodes2) (kids t.regions) ≡ map (item_of nodes) (kids t.regions) =
    items_stay nodes nodes2 (kids t.regions) places
    in
    let row = row_moved nodes next o p s was before t.name (kids t.regions) y.after
    (before_back nodes next root u o p s r i was before x y pl) z.placed w.placed w.place
    (ap (λ (n : OpName). eqb n.0 p.0) f.name ∙ ne) (ap (λ n. holds n (node_at nodes (place n nodes))) f.name ∙ w.placed)
    (kids_placed nodes next t.name 0 t.regions f.inner) (kids_under nodes next t.name 0 t.regions f.inner)
    (none_kids o t.regions ho) f.sits.row
    in
    let frame = inner_frame nodes next root u o p s r i was before x (λ n. regions_has n t.regions) y pl ho hp in (
      record {
        node = ap (node_at nodes2) (places t.name ∙ at) ∙ new;
        row = rw (places t.name, items) row;
      },
      (
        regions_frame nodes nodes2 next next2 (λ n. regions_has n t.regions) frame t.name 0 t.regions (λ n q. q)
            (places t.name) f.inner,
        tt,
      ),
    )
  where
    items_stay : (nodes nodes2 : Nodes) (ns : List OpName) → ((n : OpName) → place n nodes2 ≡ place n nodes)
        → map (item_of nodes2) ns ≡ map (item_of nodes) ns
    items_stay nodes nodes2 [] h = refl
    items_stay nodes nodes2 (n ∷ ns) h = rw (h n) (ap (λ l. item_of nodes n ∷ l) (items_stay nodes nodes2 ns h))

-- ---- the whole tree

pub record Moved (nodes2 : Nodes) (next2 : List ℕ) (root : ℕ) (u : Tree) (o p : OpName) (r i : ℕ) : Type 0 where
  pub tree : Tree
  pub found : ops_find o (cons u no_ops) ≡ Some tree
  pub holds : Holds nodes2 next2 root (tree_put p r i tree (tree_without o u))
  pub tree_is : TreeMoved u (tree_put p r i tree (tree_without o u))
  pub left : TreeOut o tree u

put_name : (p : OpName) (r i : ℕ) (t u : Tree) → (tree_put p r i t u).name ≡ u.name
put_name p r i t u = elim (cases_Bool (eqb u.name.0 p.0)) [ inl e ↦ rw e refl | inr e ↦ rw e refl ]

pub moved_holds : (nodes : Nodes) (next : List ℕ) (root : ℕ) (u : Tree) (o p : OpName) (s r i was before : ℕ)
    (x : Node) → Moving nodes next root u o p s r i was before x
    → Moved (moved_nodes nodes s p r x) (moved_links was before s next) root u o p r i
moved_holds nodes next root u o p s r i was before x y =
    let nodes2 = moved_nodes nodes s p r x in
    let next2 = moved_links was before s next in
    let w = here nodes next root u o s x y.held y.at y.name in
    let f = ops_found nodes next None (cons u no_ops) o y.held.sits w.has in
    let t = f.0 in
    let left = left_sits nodes next root u o s was x y.held y.low y.at y.name y.after in
    let pl : Placed (emptied nodes s) p =
    ops_placed (emptied nodes s) (unlinked was (item s) next) None (cons (tree_without o u) no_ops) p left y.parent
    in
    let out = taken_out o t u y.held.distinct y.low f.1.0 in
    let moved = put_again o p r i t u out y.range y.parent in
    let q = parts3 (eqb t.name.0 p.0) (regions_has p t.regions) false (out.apart p y.parent) in
    let own : regions_has o t.regions ≡ false = rw f.1.1.name at out.own.0 in
    let ne : eqb o.0 p.0 ≡ false = rw f.1.1.name at q.0 in
    let sits = moved_sits nodes next root u o p s r i was before x t y pl f.1.1 own q.1.0 ne in
    let places : (n : OpName) → place n nodes2 ≡ place n nodes = λ n. moved_places nodes s p r x n y.at in
    let tp : place t.name nodes2 ≡ s = places t.name ∙ ap (λ n. place n nodes) f.1.1.name ∙ w.place in
    let put = put_of nodes next root u o p s r i was before x y pl in
    let all = ops_put_sit (emptied nodes s) nodes2 (unlinked was (item s) next) next2 p s before put r i t None
    (cons (tree_without o u) no_ops) tp sits left out.rest y.split
    in
    record {
      tree = t;
      found = f.1.0;
      tree_is = moved;
      left = out;
      holds = record {
        sits = rw (first p r i t (tree_without o u)) at all;
        known = λ g v e.
            let z = was_there nodes s p r x g v y.at w.within e in
            moved.has v.name ∙ ap (λ n. ops_has n (cons u no_ops)) (sym z.1.1) ∙ y.held.known g z.0 z.1.0;
        apart = record {
          same = λ g j a b c e k.
              let v = was_there nodes s p r x g a y.at w.within c in
              let z = was_there nodes s p r x j b y.at w.within e in
              y.held.apart.same g j v.0 z.0 v.1.0 z.1.0
              (ap (λ (n : OpName). n.0) v.1.1 ∙ k ∙ sym (ap (λ (n : OpName). n.0) z.1.1));
        };
        distinct = moved.distinct;
        size = length-set (slice_set (unlinked was (item s) next) (item s)
            (slice_index (unlinked was (item s) next) before)) before (item s)
            ∙ length-set (unlinked was (item s) next) (item s) (slice_index (unlinked was (item s) next) before)
            ∙ length-set (slice_set next was (slice_index next (item s))) (item s) (item s)
            ∙ length-set next was (slice_index next (item s)) ∙ y.held.size
            ∙ ap (λ k. 2 * k) (sym (length-set nodes s (Some (rehomed nodes p r x))));
        top = y.held.top ∙ sym (ap (λ n. place n nodes2) (put_name p r i t (tree_without o u)) ∙ places u.name);
      };
    }
