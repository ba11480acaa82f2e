-- An operation with other attributes, in its slot.
use Rattle.std.proofs.Common.{◌≡◌, ℕ, zero, suc, ◌<◌, List, [], ◌∷◌, length, slice_set}
use Rattle.std.proofs.Common.{sym, ◌∙◌, ap, arith, refl, cond, eqb, inl, inr}
use Rattle.std.specs.Prelude.{map, Option, Some, None, slice_index_or}
use Rattle.std.proofs.lemmas.List.{get_or-set_same, get_or-set_other, length-set, length-map, map-set}
use Rattle.std.proofs.lemmas.Bool.{cases_Bool, cases_eq, eqb-false, eqb-true}
use Rattle.xf_ir.specs.declared.name.OpName.{OpName}
use Rattle.xf_ir.specs.declared.kind.Attr.{Attr}
use Rattle.xf_ir.specs.RuleBlocks.{block_args}
use Rattle.xf_ir.specs.Count.{tree_count, ops_count, regions_count}
use Rattle.xf_ir.specs.Tree.{Ops, no_ops, op, Regions, no_regions, region, Tree, cons}
use Rattle.xf_ir.specs.Changes.{ops_attributed, regions_attributed, tree_attributed}
use Rattle.xf_rings.specs.Ring.{Path}
use Rattle.xf_arena_tree.specs.Names.{heads, kids, ops_has, regions_has, OpsDistinct, RegionsDistinct}
use Rattle.xf_arena_bed.specs.declared.node.Node.{Node}
use Rattle.xf_arena_bed.specs.Home.{Home}
use Rattle.xf_arena_bed.specs.Sits.{Nodes, node_at, holds, place, head, item_of, home_of, OpsSit}
use Rattle.xf_arena_bed.specs.Sits.{RegionsSit, Holds, AllFree, FreeOk}
use Rattle.xf_arena_bed.specs.View.{IsIndexed, number_in, layout_of, IsBed}
use Rattle.std.specs.Prelude.{IfSome}
use Rattle.xf_ir.specs.Walk.{ops_find, tree_find}
use Rattle.xf_arena_bed.specs.declared.bed.Bed.TheInside.{Inside}
use Rattle.xf_arena_bed.specs.declared.node.OpId.{OpId}
use Rattle.xf_arena_bed.specs.Value.{Layout}
use Rattle.xf_arena_bed.specs.Live.{name_of, IsLive}
use Rattle.xf_arena_bed.specs.Finds.{Shown}
use Rattle.xf_arena_bed.proofs.PlaceLemmas.{place_within}
use Rattle.xf_arena_bed.proofs.LeafLemmas.{holder}
use Rattle.xf_arena_bed.proofs.FindLemmas.{shows}
use Rattle.xf_arena_bed.proofs.SpotLemmas.{stands}
use Rattle.xf_arena_bed.proofs.KidRows.{find_is}
use Rattle.xf_arena_bed.specs.Seat.{seat_of}
use Rattle.xf_arena_bed.proofs.CloseLemmas.{seat_is, seated}

-- ---- the tree

heads_stay : (o : OpName) (f : List Attr → List Attr) (ops : Ops) → heads (ops_attributed o f ops) ≡ heads ops
heads_stay o f no_ops = refl
heads_stay o f (op n k ds os ts rs rest) = ap (λ l. n ∷ l) (heads_stay o f rest)

kids_stay : (o : OpName) (f : List Attr → List Attr) (rs : Regions) → kids (regions_attributed o f rs) ≡ kids rs
kids_stay o f no_regions = refl
kids_stay o f (region args ops rest) = rw (heads_stay o f ops, kids_stay o f rest) refl

args_stay : (o : OpName) (f : List Attr → List Attr) (rs : Regions)
    → block_args (regions_attributed o f rs) ≡ block_args rs
args_stay o f no_regions = refl
args_stay o f (region args ops rest) = ap (λ l. args ∷ l) (args_stay o f rest)

mutual
  has_stays : (o x : OpName) (f : List Attr → List Attr) (ops : Ops)
      → ops_has x (ops_attributed o f ops) ≡ ops_has x ops
  has_stays o x f no_ops = refl
  has_stays o x f (op n k ds os ts rs rest) = rw (regions_has_stays o x f rs, has_stays o x f rest) refl

  regions_has_stays : (o x : OpName) (f : List Attr → List Attr) (rs : Regions)
      → regions_has x (regions_attributed o f rs) ≡ regions_has x rs
  regions_has_stays o x f no_regions = refl
  regions_has_stays o x f (region args ops rest) = rw (has_stays o x f ops, regions_has_stays o x f rest) refl

mutual
  distinct_stays : (o : OpName) (f : List Attr → List Attr) (ops : Ops) → OpsDistinct ops
      → OpsDistinct (ops_attributed o f ops)
  distinct_stays o f no_ops d = tt
  distinct_stays o f (op n k ds os ts rs rest) d = (
    regions_has_stays o n f rs ∙ d.0,
    (
      has_stays o n f rest ∙ d.1.0,
      (
        (λ x h. has_stays o x f rest ∙ d.1.1.0 x (sym (regions_has_stays o x f rs) ∙ h)),
        (regions_distinct_stays o f rs d.1.1.1.0, distinct_stays o f rest d.1.1.1.1),
      ),
    ),
  )

  regions_distinct_stays : (o : OpName) (f : List Attr → List Attr) (rs : Regions) → RegionsDistinct rs
      → RegionsDistinct (regions_attributed o f rs)
  regions_distinct_stays o f no_regions d = tt
  regions_distinct_stays o f (region args ops rest) d = (
    (λ x h. regions_has_stays o x f rest ∙ d.0 x (sym (has_stays o x f ops) ∙ h)),
    (distinct_stays o f ops d.1.0, regions_distinct_stays o f rest d.1.1),
  )

mutual
  count_stays : (o : OpName) (f : List Attr → List Attr) (ops : Ops)
      → ops_count (ops_attributed o f ops) ≡ ops_count ops
  count_stays o f no_ops = refl
  count_stays o f (op n k ds os ts rs rest) = omega (arith, regions_count_stays o f rs, count_stays o f rest)

  regions_count_stays : (o : OpName) (f : List Attr → List Attr) (rs : Regions)
      → regions_count (regions_attributed o f rs) ≡ regions_count rs
  regions_count_stays o f no_regions = refl
  regions_count_stays o f (region args ops rest) = omega (arith, count_stays o f ops, regions_count_stays o f rest)

-- ---- the slots

pub place_same : (nodes : Nodes) (n : OpName) (s : ℕ) (y : Option Node) → holds n (node_at nodes s) ≡ holds n y
    → place n (slice_set nodes s y) ≡ place n nodes
place_same [] n s y e = refl
place_same (z ∷ zs) n zero y e = rw (← e) refl
place_same (z ∷ zs) n (suc s) y e = ap (λ j. cond (holds n z) 0 (suc j)) (place_same zs n s y e)

-- the node in the slot of o has other attributes
pub record Field (nodes nodes2 : Nodes) (s : ℕ) (o : OpName) (x : Node) (new : List Attr) : Type 0 where
  pub at : node_at nodes s ≡ Some x
  pub name : x.name ≡ o
  pub place : place o nodes ≡ s
  pub within : s < length nodes
  pub set : nodes2 ≡ slice_set nodes s (Some (record x { attrs = new }))

abbrev with_new : List Attr → Node → Node
with_new new x = record x { attrs = new }

places_of : (nodes nodes2 : Nodes) (s : ℕ) (o : OpName) (x : Node) (new : List Attr) (c : Field nodes nodes2 s o x new)
    (n : OpName) → place n nodes2 ≡ place n nodes
places_of nodes nodes2 s o x new c n =
    ap (place n) c.set ∙ place_same nodes n s (Some (with_new new x)) (ap (holds n) c.at)

here_of : (nodes nodes2 : Nodes) (s : ℕ) (o : OpName) (x : Node) (new : List Attr) (c : Field nodes nodes2 s o x new)
    → node_at nodes2 s ≡ Some (with_new new x)
here_of nodes nodes2 s o x new c =
    ap (λ (l : Nodes). node_at l s) c.set ∙ get_or-set_same nodes s (Some (with_new new x)) None c.within

other_of : (nodes nodes2 : Nodes) (s : ℕ) (o : OpName) (x : Node) (new : List Attr) (c : Field nodes nodes2 s o x new)
    (i : ℕ) → (i ≡ s → ⊥) → node_at nodes2 i ≡ node_at nodes i
other_of nodes nodes2 s o x new c i n =
    ap (λ (l : Nodes). node_at l i) c.set ∙ get_or-set_other nodes s i (Some (with_new new x)) None n

items_stay : (nodes nodes2 : Nodes) (ns : List OpName) → ((n : OpName) → place n nodes2 ≡ place n nodes)
    → map (item_of nodes2) ns ≡ map (item_of nodes) ns
items_stay nodes nodes2 [] h = refl
items_stay nodes nodes2 (n ∷ ns) h = rw (h n) (ap (λ l. item_of nodes n ∷ l) (items_stay nodes nodes2 ns h))

some_node : (a b : Node) → Some a ≡ Some b → a ≡ b
some_node a b e = cc

pub same_op : (n o : OpName) → n.0 ≡ o.0 → n ≡ o
same_op n o e = let mk : ℕ → OpName = λ i. record { 0 = i } in ap mk e

mutual
  ops_set_sit : (nodes nodes2 : Nodes) (next : List ℕ) (s : ℕ) (o : OpName) (x : Node) (new : List Attr)
      (c : Field nodes nodes2 s o x new) (home : Option Home) (ops : Ops) → OpsSit nodes next home ops
      → OpsSit nodes2 next home (ops_attributed o (λ ds. new) ops)
  ops_set_sit nodes nodes2 next s o x new c home no_ops st = tt
  ops_set_sit nodes nodes2 next s o x new c home (op n k ds os ts rs rest) st =
      let p = places_of nodes nodes2 s o x new c in
      let f = λ (l : List Attr). new in
      let row : Path next (head (place n nodes2)) (map (item_of nodes2) (kids (regions_attributed o f rs)))
      (head (place n nodes2)) = rw (p n, kids_stay o f rs, items_stay nodes nodes2 (kids rs) p) st.0.row
      in
      let r : Node = record {
        name = n;
        kind = k;
        attrs = ds;
        operands = os;
        results = ts;
        regions = block_args rs;
        parent = home;
      } in
      let inner = regions_set_sit nodes nodes2 next s o x new c n 0 rs st.1.0 in
      let behind = ops_set_sit nodes nodes2 next s o x new c home rest st.1.1 in
      elim (cases_Bool (eqb n.0 o.0)) [
        | inl e ↦ (
            let q : n ≡ o = same_op n o (eqb-true n.0 o.0 e) in
            let pl : place n nodes ≡ s = rw q c.place in
            let z : x ≡ r = some_node x r (sym c.at ∙ ap (node_at nodes) (sym pl) ∙ st.0.node) in
            let here = here_of nodes nodes2 s o x new c ∙ ap (λ (w : Node). Some (with_new new w)) z in
            rw e (record { node = rw (p n, args_stay o f rs, pl) here; row = row }, (inner, behind)))
        | inr e ↦ (
            let ne : place n nodes ≡ s → ⊥ = λ w.
            let z : x ≡ r = some_node x r (sym c.at ∙ ap (node_at nodes) (sym w) ∙ st.0.node) in
            let m : n ≡ o = ap (λ (y : Node). y.name) (sym z) ∙ c.name in
            eqb-false n.0 o.0 e (ap (λ (y : OpName). y.0) m)
            in
            let same = other_of nodes nodes2 s o x new c (place n nodes) ne ∙ st.0.node in
            rw e (record { node = rw (p n, args_stay o f rs) same; row = row }, (inner, behind)))
      ]

  regions_set_sit : (nodes nodes2 : Nodes) (next : List ℕ) (s : ℕ) (o : OpName) (x : Node) (new : List Attr)
      (c : Field nodes nodes2 s o x new) (n : OpName) (r : ℕ) (rs : Regions) → RegionsSit nodes next n r rs
      → RegionsSit nodes2 next n r (regions_attributed o (λ ds. new) rs)
  regions_set_sit nodes nodes2 next s o x new c n r no_regions st = tt
  regions_set_sit nodes nodes2 next s o x new c n r (region args ops rest) st =
      let p = places_of nodes nodes2 s o x new c n in (
        rw p (ops_set_sit nodes nodes2 next s o x new c (home_of nodes n r) ops st.0),
        regions_set_sit nodes nodes2 next s o x new c n (suc r) rest st.1,
      )

pub attributed_first : (o : OpName) (f : List Attr → List Attr) (t : Tree)
    → ops_attributed o f (cons t no_ops) ≡ cons (tree_attributed o f t) no_ops
attributed_first o f t = refl

-- what is in a slot was there, under the same name
was : (nodes nodes2 : Nodes) (s : ℕ) (o : OpName) (x : Node) (new : List Attr) (c : Field nodes nodes2 s o x new)
    (i : ℕ) (y : Node) → node_at nodes2 i ≡ Some y → (z : Node) × ((node_at nodes i ≡ Some z) × (z.name ≡ y.name))
was nodes nodes2 s o x new c i y e = elim (cases_eq i s) [
  | inl q ↦ (
      let w : with_new new x ≡ y =
      some_node (with_new new x) y (sym (here_of nodes nodes2 s o x new c) ∙ ap (node_at nodes2) (sym q) ∙ e)
      in
      (x, (ap (node_at nodes) q ∙ c.at, ap (λ (v : Node). v.name) w)))
  | inr q ↦ (y, (sym (other_of nodes nodes2 s o x new c i q) ∙ e, refl))
]

pub holds_set : (nodes nodes2 : Nodes) (next : List ℕ) (root : ℕ) (t : Tree) (s : ℕ) (o : OpName) (x : Node)
    (new : List Attr) → Field nodes nodes2 s o x new → Holds nodes next root t
    → Holds nodes2 next root (tree_attributed o (λ ds. new) t)
holds_set nodes nodes2 next root t s o x new c h =
    let f = λ (l : List Attr). new in
    let len = ap length c.set ∙ length-set nodes s (Some (with_new new x)) in
    record {
      sits = ops_set_sit nodes nodes2 next s o x new c None (cons t no_ops) h.sits;
      known = λ i y e.
          let z = was nodes nodes2 s o x new c i y e in
          has_stays o y.name f (cons t no_ops)
          ∙ ap (λ (n : OpName). ops_has n (cons t no_ops)) (sym z.1.1) ∙ h.known i z.0 z.1.0;
      apart = record {
        same = λ i j a b p q e.
            let y = was nodes nodes2 s o x new c i a p in
            let z = was nodes nodes2 s o x new c j b q in
            h.apart.same i j y.0 z.0 y.1.0 z.1.0
            (ap (λ (n : OpName). n.0) y.1.1 ∙ e ∙ sym (ap (λ (n : OpName). n.0) z.1.1));
      };
      distinct = distinct_stays o f (cons t no_ops) h.distinct;
      size = omega (arith, h.size, len);
      top = h.top ∙ sym (places_of nodes nodes2 s o x new c t.name);
    }

pub count_set : (o : OpName) (new : List Attr) (t : Tree) → tree_count (tree_attributed o (λ ds. new) t) ≡ tree_count t
count_set o new t = omega (arith, regions_count_stays o (λ ds. new) t.regions)

free_set : (nodes nodes2 : Nodes) (next fs : List ℕ) (s : ℕ) (o : OpName) (x : Node) (new : List Attr)
    → Field nodes nodes2 s o x new → AllFree nodes next fs → AllFree nodes2 next fs
free_set nodes nodes2 next [] s o x new c a = tt
free_set nodes nodes2 next (g ∷ fs) s o x new c a =
    let len = ap length c.set ∙ length-set nodes s (Some (with_new new x)) in
    let ne : g ≡ s → ⊥ = λ q. let z : None ≡ Some x = sym a.0.1.0 ∙ ap (node_at nodes) q ∙ c.at in cc in (
      (omega (arith, len, a.0.0), (other_of nodes nodes2 s o x new c g ne ∙ a.0.1.0, a.0.1.1)),
      free_set nodes nodes2 next fs s o x new c a.1,
    )

pub free_ok_set : (nodes nodes2 : Nodes) (next fs : List ℕ) (live s : ℕ) (o : OpName) (x : Node) (new : List Attr)
    → Field nodes nodes2 s o x new → FreeOk nodes next fs live → FreeOk nodes2 next fs live
free_ok_set nodes nodes2 next fs live s o x new c f =
    let len = ap length c.set ∙ length-set nodes s (Some (with_new new x)) in
    record {
      each = free_set nodes nodes2 next fs s o x new c f.each;
      once = f.once;
      total = omega (arith, f.total, len);
    }

pub indexed_set : (nodes nodes2 : Nodes) (index : List (Option ℕ)) (s : ℕ) (o : OpName) (x : Node) (new : List Attr)
    → Field nodes nodes2 s o x new → IsIndexed nodes index → IsIndexed nodes2 index
indexed_set nodes nodes2 index s o x new c i =
    let len = ap length c.set ∙ length-set nodes s (Some (with_new new x)) in
    record {
      within = omega (arith, i.within, len);
      same = λ j. elim (cases_eq j s) [
        | inl q ↦ (
            let b : number_in (node_at nodes2 j) ≡ number_in (node_at nodes j) =
            ap number_in (ap (node_at nodes2) q ∙ here_of nodes nodes2 s o x new c)
            ∙ sym (ap number_in (ap (node_at nodes) q ∙ c.at))
            in
            i.same j ∙ sym b)
        | inr q ↦ i.same j ∙ sym (ap number_in (other_of nodes nodes2 s o x new c j q))
      ];
    }

pub set_back : (xs : List (Option OpName)) (s : ℕ) (v : Option OpName) → slice_index_or xs s None ≡ v → s < length xs
    → slice_set xs s v ≡ xs
set_back [] s v e h = refl
set_back (x ∷ xs) zero v e h = ap (λ y. y ∷ xs) (sym e)
set_back (x ∷ xs) (suc s) v e h = ap (λ l. x ∷ l) (set_back xs s v e (omega arith))

pub seats_set : (nodes nodes2 : Nodes) (s : ℕ) (o : OpName) (x : Node) (new : List Attr)
    → Field nodes nodes2 s o x new → map seat_of nodes2 ≡ map seat_of nodes
seats_set nodes nodes2 s o x new c =
    ap (map seat_of) c.set ∙ map-set seat_of nodes s (Some (with_new new x))
    ∙ set_back (map seat_of nodes) s (Some x.name) (seat_is nodes s ∙ ap seat_of c.at)
    (let l = length-map nodes seat_of in let w = c.within in omega arith)

pub field_of : (a : Inside) (v : Layout) (id : OpId) (nodes2 : Nodes) (new : List Attr) → IsBed a → layout_of a ≡ v
    → IsLive v id
    → IfSome (node_at a.nodes.items id.slot)
    (λ n. nodes2 ≡ slice_set a.nodes.items id.slot (Some (record n { attrs = new })))
    → (x : Node) × Field a.nodes.items nodes2 id.slot (name_of id) x new
field_of a v id nodes2 new i e live w =
    let nodes = a.nodes.items in
    let o = name_of id in
    let s = stands a v id i e live in
    let z = holder o (node_at nodes id.slot) (seated a v id.slot o e live) in
    let pl = place_within nodes o s.placed in (
      z.0,
      record {
        at = z.1.0;
        name = same_op z.0.name o z.1.1;
        place = s.place;
        within = (let q = s.place in omega (arith, pl));
        set = rw z.1.0 at w;
      },
    )

pub field_attrs : (a : Inside) (v : Layout) (id : OpId) (result : List Attr) (t : Tree) → IsBed a → layout_of a ≡ v
    → IsLive v id → IfSome (node_at a.nodes.items id.slot) (λ n. result ≡ n.attrs)
    → tree_find (name_of id) v.root ≡ Some t
    → result ≡ t.attrs
field_attrs a v id result t i e live w f =
    let nodes = a.nodes.items in
    let o = name_of id in
    let s = stands a v id i e live in
    let z = holder o (node_at nodes id.slot) (seated a v id.slot o e live) in
    let nm = same_op z.0.name o z.1.1 in
    let u = shows nodes a.links a.root v.root id.slot z.0 s.holds z.1.0 in
    let r : result ≡ z.0.attrs = rw z.1.0 at w in
    let found : ops_find o (cons v.root no_ops) ≡ Some u.0 =
    ap (λ (n : OpName). ops_find n (cons v.root no_ops)) (sym nm) ∙ u.1.0
    in
    let same : u.0 ≡ t = some_tree u.0 t (sym found ∙ find_is o v.root ∙ f) in
    r ∙ ap (λ (q : Shown). q.attrs) u.1.1 ∙ ap (λ (q : Tree). q.attrs) same
  where
    some_tree : (a b : Tree) → Some a ≡ Some b → a ≡ b
    some_tree a b e = cc
