-- What stays where the nodes and rows of a tree's operations stay.
use Rattle.std.proofs.Common.{◌≡◌, ℕ, suc, List, [], ◌∷◌, ◌++◌}
use Rattle.std.proofs.Common.{ap, refl, Bool, true, eqb, ◌||◌}
use Rattle.std.specs.Prelude.{map, Option}
use Rattle.std.proofs.lemmas.Bool.{eq-eqb, or_left, or_right}
use Rattle.xf_ir.specs.declared.name.OpName.{OpName}
use Rattle.xf_ir.specs.Tree.{Ops, no_ops, op, Regions, no_regions, region}
use Rattle.xf_rings.specs.Ring.{Path}
use Rattle.xf_arena_tree.specs.Names.{heads, kids, ops_has, regions_has}
use Rattle.xf_arena_bed.specs.Home.{Home}
use Rattle.xf_arena_bed.specs.Sits.{Nodes, node_at, place, head, item_of, home_of, OpsSit, RegionsSit}
use Rattle.xf_arena_bed.proofs.PlaceLemmas.{sits_placed, Placed, AllPlaced, kids_placed}
use Rattle.xf_arena_bed.proofs.PutLemmas.{AllUnder, kids_under}

-- each of these names passes
abbrev pub AllPass : (OpName → Bool) → List OpName → Type 0
AllPass has [] = Unit {0}
AllPass has (n ∷ ns) = (has n ≡ true) × AllPass has ns

-- at the names that pass, slots, nodes and rows stay
pub record Frame (nodes nodes2 : Nodes) (next next2 : List ℕ) (has : OpName → Bool) : Type 0 where
  pub places : (n : OpName) → has n ≡ true → Placed nodes n → place n nodes2 ≡ place n nodes
  pub kept : (n : OpName) → has n ≡ true → Placed nodes n
      → node_at nodes2 (place n nodes) ≡ node_at nodes (place n nodes)
  pub rows : (n : OpName) (ns : List OpName) → has n ≡ true → Placed nodes n → AllPlaced nodes ns → AllUnder nodes n ns
      → AllPass has ns → Path next (head (place n nodes)) (map (item_of nodes) ns) (head (place n nodes))
      → Path next2 (head (place n nodes)) (map (item_of nodes) ns) (head (place n nodes))

heads_pass : (has : OpName → Bool) (ops : Ops) → ((x : OpName) → ops_has x ops ≡ true → has x ≡ true)
    → AllPass has (heads ops)
heads_pass has no_ops h = tt
heads_pass has (op n k ds os ts rs rest) h = (
  h n (or_left (eqb n.0 n.0) (regions_has n rs || ops_has n rest) (eq-eqb n.0 n.0 refl)),
  heads_pass has rest (λ x q. h x (or_right (eqb n.0 x.0) (regions_has x rs || ops_has x rest)
      (or_right (regions_has x rs) (ops_has x rest) q))),
)

pass_append : (has : OpName → Bool) (ns ms : List OpName) → AllPass has ns → AllPass has ms → AllPass has (ns ++ ms)
pass_append has [] ms a b = b
pass_append has (n ∷ ns) ms a b = (a.0, pass_append has ns ms a.1 b)

kids_pass : (has : OpName → Bool) (rs : Regions) → ((x : OpName) → regions_has x rs ≡ true → has x ≡ true)
    → AllPass has (kids rs)
kids_pass has no_regions h = tt
kids_pass has (region args ops rest) h =
    pass_append has (heads ops) (kids rest)
    (heads_pass has ops (λ x q. h x (or_left (ops_has x ops) (regions_has x rest) q)))
    (kids_pass has rest (λ x q. h x (or_right (ops_has x ops) (regions_has x rest) q)))

items_stay : (nodes nodes2 : Nodes) (has : OpName → Bool) (ns : List OpName)
    → ((n : OpName) → has n ≡ true → Placed nodes n → place n nodes2 ≡ place n nodes) → AllPass has ns
    → AllPlaced nodes ns → map (item_of nodes2) ns ≡ map (item_of nodes) ns
items_stay nodes nodes2 has [] h a p = refl
items_stay nodes nodes2 has (n ∷ ns) h a p =
    rw (h n a.0 p.0) (ap (λ l. item_of nodes n ∷ l) (items_stay nodes nodes2 has ns h a.1 p.1))

mutual
  pub ops_frame : (nodes nodes2 : Nodes) (next next2 : List ℕ) (has : OpName → Bool)
      (f : Frame nodes nodes2 next next2 has)
      (home : Option Home) (ops : Ops) → ((x : OpName) → ops_has x ops ≡ true → has x ≡ true)
      → OpsSit nodes next home ops
      → OpsSit nodes2 next2 home ops
  ops_frame nodes nodes2 next next2 has f home no_ops h s = tt
  ops_frame nodes nodes2 next next2 has f home (op n k ds os ts rs rest) h s =
      let here : has n ≡ true = h n (or_left (eqb n.0 n.0) (regions_has n rs || ops_has n rest)
      (eq-eqb n.0 n.0 refl)) in
      let below : (x : OpName) → regions_has x rs ≡ true → has x ≡ true =
      λ x q. h x (or_right (eqb n.0 x.0) (regions_has x rs || ops_has x rest)
      (or_left (regions_has x rs) (ops_has x rest) q))
      in
      let behind : (x : OpName) → ops_has x rest ≡ true → has x ≡ true =
      λ x q. h x (or_right (eqb n.0 x.0) (regions_has x rs || ops_has x rest)
      (or_right (regions_has x rs) (ops_has x rest) q))
      in
      let pl : Placed nodes n = sits_placed nodes next home n _ s.0.node refl in
      let ks = kids_placed nodes next n 0 rs s.1.0 in
      let pass = kids_pass has rs below in
      let row = f.rows n (kids rs) here pl ks (kids_under nodes next n 0 rs s.1.0) pass s.0.row in (
        record {
          node = rw (f.places n here pl, f.kept n here pl) s.0.node;
          row = rw (f.places n here pl, items_stay nodes nodes2 has (kids rs) f.places pass ks) row;
        },
        (
          regions_frame nodes nodes2 next next2 has f n 0 rs below (f.places n here pl) s.1.0,
          ops_frame nodes nodes2 next next2 has f home rest behind s.1.1,
        ),
      )

  pub regions_frame : (nodes nodes2 : Nodes) (next next2 : List ℕ) (has : OpName → Bool)
      (f : Frame nodes nodes2 next next2 has) (n : OpName) (r : ℕ) (rs : Regions)
      → ((x : OpName) → regions_has x rs ≡ true → has x ≡ true) → place n nodes2 ≡ place n nodes
      → RegionsSit nodes next n r rs → RegionsSit nodes2 next2 n r rs
  regions_frame nodes nodes2 next next2 has f n r no_regions h p s = tt
  regions_frame nodes nodes2 next next2 has f n r (region args ops rest) h p s = (
    rw p (ops_frame nodes nodes2 next next2 has f (home_of nodes n r) ops
        (λ x q. h x (or_left (ops_has x ops) (regions_has x rest) q)) s.0),
    regions_frame nodes nodes2 next next2 has f n (suc r) rest
        (λ x q. h x (or_right (ops_has x ops) (regions_has x rest) q)) p s.1,
  )
