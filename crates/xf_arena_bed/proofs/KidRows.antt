-- The children of an operation, as the links have them.
use Rattle.std.proofs.Common.{◌≡◌, ℕ, suc, ◌/◌, ◌%◌, ◌<◌, ◌≤◌, List, [], ◌∷◌, ◌++◌, length, slice_index}
use Rattle.std.proofs.Common.{sym, ◌∙◌, ap, arith, refl, true, false, eqb, inl, inr}
use Rattle.std.specs.Prelude.{map, Option, Some, None}
use Rattle.std.proofs.lemmas.List.{map-append, length-map}
use Rattle.std.proofs.lemmas.Bool.{cases_Bool, eq-eqb, ne_eqb}
use Rattle.xf_ir.specs.declared.name.OpName.{OpName}
use Rattle.xf_ir.specs.Tree.{Ops, no_ops, op, Regions, no_regions, region, Tree, cons}
use Rattle.xf_ir.specs.Walk.{ops_find, regions_find, tree_find, first_of}
use Rattle.xf_ir.specs.Lists.{Each}
use Rattle.xf_ir.specs.Count.{tree_count, ops_count, regions_count}
use Rattle.xf_ir.proofs.Found.{first_cases}
use Rattle.xf_rings.specs.Ring.{Path, chain}
use Rattle.xf_rings.specs.Groups.{IsLeft, Lacks}
use Rattle.xf_arena_tree.specs.Names.{heads, kids, OpsDistinct}
use Rattle.xf_arena_tree.specs.Kids.{Inner, block_inner, inner_of, first_item}
use Rattle.xf_arena_tree.proofs.SplitLemmas.{find_has}
use Rattle.xf_arena_bed.specs.declared.bed.Bed.TheInside.{Inside}
use Rattle.xf_arena_bed.specs.declared.node.Node.{Node}
use Rattle.xf_arena_bed.specs.declared.node.OpId.{OpId}
use Rattle.xf_arena_bed.specs.declared.kid.Kid.{Kid}
use Rattle.xf_arena_bed.specs.Home.{Home}
use Rattle.xf_arena_bed.specs.Value.{Layout, seat_at}
use Rattle.xf_arena_bed.specs.Seat.{seat_of}
use Rattle.xf_arena_bed.specs.Live.{name_of, IsLive}
use Rattle.xf_arena_bed.specs.Sits.{Nodes, node_at, place, head, item, item_of, home_of, OpsSit, RegionsSit, Holds}
use Rattle.xf_arena_bed.specs.View.{layout_of, IsBed}
use Rattle.xf_arena_bed.specs.Kids.{kid_at_home, kid_of_node, kid_seen, inner_kid, kid_before}
use Rattle.xf_arena_bed.specs.Kids.{kids_left, AreKids, inner_kids}
use Rattle.xf_arena_bed.proofs.CloseLemmas.{seat_is}
use Rattle.xf_arena_bed.proofs.FindLemmas.{ops_found}
use Rattle.xf_arena_bed.proofs.PlaceLemmas.{place_within}
use Rattle.xf_arena_bed.proofs.RebuiltLemmas.{Not, chain_is, kids_within}
use Rattle.xf_arena_bed.proofs.SpotLemmas.{stands}

-- ---- found by name

alone : (a : Option Tree) → first_of a None ≡ a
alone None = refl
alone (Some x) = refl

pub find_is : (x : OpName) (t : Tree) → ops_find x (cons t no_ops) ≡ tree_find x t
find_is x t = alone (tree_find x t)

-- ---- the links of a row

abbrev pub kid_items : Nodes → List Inner → List ℕ
kid_items nodes [] = []
kid_items nodes (k ∷ ks) = item_of nodes k.name ∷ kid_items nodes ks

block_items : (nodes : Nodes) (r : ℕ) (ops : Ops) (more : List Inner)
    → kid_items nodes (block_inner r ops more) ≡ map (item_of nodes) (heads ops) ++ kid_items nodes more
block_items nodes r no_ops more = refl
block_items nodes r (op n k ds os ts rs rest) more = ap (λ l. item_of nodes n ∷ l) (block_items nodes r rest more)

pub inner_items : (nodes : Nodes) (r : ℕ) (rs : Regions)
    → kid_items nodes (inner_of r rs) ≡ map (item_of nodes) (kids rs)
inner_items nodes r no_regions = refl
inner_items nodes r (region args ops rest) =
    block_items nodes r ops (inner_of (suc r) rest)
    ∙ ap (λ l. map (item_of nodes) (heads ops) ++ l) (inner_items nodes (suc r) rest)
    ∙ sym (map-append (item_of nodes) (heads ops) (kids rest))

-- the node of a child
pub record KidNode (nodes : Nodes) (p : OpName) (k : Inner) : Type 0 where
  pub node : Node
  pub at : node_at nodes (place k.name nodes) ≡ Some node
  pub name : node.name ≡ k.name
  pub home : node.parent ≡ home_of nodes p k.region

abbrev pub AllKidNodes : Nodes → OpName → List Inner → Type 0
AllKidNodes nodes p [] = Unit {0}
AllKidNodes nodes p (k ∷ ks) = KidNode nodes p k × AllKidNodes nodes p ks

block_nodes : (nodes : Nodes) (next : List ℕ) (p : OpName) (r : ℕ) (ops : Ops) (more : List Inner)
    → OpsSit nodes next (home_of nodes p r) ops → AllKidNodes nodes p more
    → AllKidNodes nodes p (block_inner r ops more)
block_nodes nodes next p r no_ops more s a = a
block_nodes nodes next p r (op n k ds os ts rs rest) more s a =
    (record { node = _; at = s.0.node; name = refl; home = refl }, block_nodes nodes next p r rest more s.1.1 a)

pub inner_nodes : (nodes : Nodes) (next : List ℕ) (p : OpName) (r : ℕ) (rs : Regions) → RegionsSit nodes next p r rs
    → AllKidNodes nodes p (inner_of r rs)
inner_nodes nodes next p r no_regions s = tt
inner_nodes nodes next p r (region args ops rest) s =
    block_nodes nodes next p r ops (inner_of (suc r) rest) s.0 (inner_nodes nodes next p (suc r) rest s.1)

-- a number that leads to the first of these, or to the end of the row
abbrev pub StepTo : Nodes → OpName → ℕ → List Inner → Type 0
StepTo nodes p v [] = v ≡ head (place p nodes)
StepTo nodes p v (k ∷ ks) = (v ≡ item_of nodes k.name) × KidNode nodes p k

pub first_step : (nodes : Nodes) (next : List ℕ) (p : OpName) (a : ℕ) (ks : List Inner)
    → Path next a (kid_items nodes ks) (head (place p nodes)) → AllKidNodes nodes p ks
    → StepTo nodes p (slice_index next a) ks
first_step nodes next p a [] q k = q
first_step nodes next p a (x ∷ ks) q k = (q.0, k.0)

pub later_step : (nodes : Nodes) (next : List ℕ) (p : OpName) (a : ℕ) (us : List Inner) (x : Inner) (vs : List Inner)
    → Path next a (kid_items nodes (us ++ x ∷ vs)) (head (place p nodes)) → AllKidNodes nodes p (us ++ x ∷ vs)
    → StepTo nodes p (slice_index next (item_of nodes x.name)) vs
later_step nodes next p a [] x vs q k = first_step nodes next p (item_of nodes x.name) vs q.1 k.1
later_step nodes next p a (u ∷ us) x vs q k = later_step nodes next p (item_of nodes u.name) us x vs q.1 k.1

pub seen_step : (nodes : Nodes) (p : OpName) (v : ℕ) (vs : List Inner) → StepTo nodes p v vs
    → inner_kid (kid_seen nodes v) ≡ first_item vs
seen_step nodes p v [] s =
    let q : eqb (v % 2) 0 ≡ true = eq-eqb (v % 2) 0 (omega arith) in
    rw q refl
seen_step nodes p v (k ∷ vs) s =
    let e = s.0 in
    let q : eqb (v % 2) 0 ≡ false = ne_eqb (v % 2) 0 (λ z. omega arith) in
    let h : v / 2 ≡ place k.name nodes = omega arith in
    let w = s.1 in
    rw (q, h, w.at, w.home, w.name) refl

-- ---- what is seen is live

seen_home : (nodes : Nodes) (s : ℕ) (x : Node) (h : Option Home) (k : Kid) → node_at nodes s ≡ Some x
    → kid_at_home s x.name h ≡ Some k → seat_at (map seat_of nodes) k.id.slot ≡ Some (name_of k.id)
seen_home nodes s x None k a e = cc
seen_home nodes s x (Some h) k a e =
    let made : Kid = record { id = record { slot = s; serial = x.name.0 }; region = h.1 } in
    let q : made ≡ k = some_kid made k e in
    rw (← q) (seat_is nodes s ∙ ap seat_of a)
  where
    some_kid : (a b : Kid) → Some a ≡ Some b → a ≡ b
    some_kid a b e = cc

seen_node : (nodes : Nodes) (s : ℕ) (y : Option Node) (k : Kid) → node_at nodes s ≡ y → kid_of_node s y ≡ Some k
    → seat_at (map seat_of nodes) k.id.slot ≡ Some (name_of k.id)
seen_node nodes s None k a e = cc
seen_node nodes s (Some x) k a e = seen_home nodes s x x.parent k a e

seen_live : (nodes : Nodes) (v : ℕ) (k : Kid) → kid_seen nodes v ≡ Some k
    → seat_at (map seat_of nodes) k.id.slot ≡ Some (name_of k.id)
seen_live nodes v k e = elim (cases_Bool (eqb (v % 2) 0)) [
  | inl t ↦ (let z : None ≡ Some k = rw t at e in cc)
  | inr f ↦ seen_node nodes (v / 2) (node_at nodes (v / 2)) k refl (rw f at e)
]

pub kid_live : (a : Inside) (v : Layout) (number : ℕ) (result : Option Kid) (k : Kid) → layout_of a ≡ v
    → result ≡ kid_seen a.nodes.items number → result ≡ Some k → IsLive v k.id
kid_live a v number result k e q r =
    ap (λ (m : Layout). seat_at m.seats k.id.slot) (sym e) ∙ seen_live a.nodes.items number k (sym q ∙ r)

-- ---- the row of a live operation

same_tree : (t u : Tree) → Some t ≡ Some u → t ≡ u
same_tree t u e = cc

pub record RowOf (nodes : Nodes) (next : List ℕ) (p : OpName) (ks : List Inner) : Type 0 where
  pub path : Path next (head (place p nodes)) (kid_items nodes ks) (head (place p nodes))
  pub nodes_are : AllKidNodes nodes p ks

path_named : (nodes : Nodes) (next : List ℕ) (n p : OpName) (xs ys : List ℕ) → n ≡ p → ys ≡ xs
    → Path next (head (place n nodes)) xs (head (place n nodes))
    → Path next (head (place p nodes)) ys (head (place p nodes))
path_named nodes next n p xs ys e q h = rw (← e, q) h

row_same : (nodes : Nodes) (next : List ℕ) (p : OpName) (f t : Tree) → f ≡ t
    → RowOf nodes next p (inner_of 0 f.regions) → RowOf nodes next p (inner_of 0 t.regions)
row_same nodes next p f t e h = rw (← e) h

nodes_named : (nodes : Nodes) (n p : OpName) (ks : List Inner) → n ≡ p → AllKidNodes nodes n ks → AllKidNodes nodes p ks
nodes_named nodes n p ks e h = rw (← e) h

pub row_of : (a : Inside) (v : Layout) (p : OpName) (t : Tree) → IsBed a → layout_of a ≡ v
    → tree_find p v.root ≡ Some t → RowOf a.nodes.items a.links p (inner_of 0 t.regions)
row_of a v p t i e h =
    let nodes = a.nodes.items in
    let root : (layout_of a).root ≡ v.root = ap (λ (m : Layout). m.root) e in
    let holds : Holds nodes a.links a.root v.root = rw root at i.holds in
    let h2 = find_is p v.root ∙ h in
    let f = ops_found nodes a.links None (cons v.root no_ops) p holds.sits (find_has p (cons v.root no_ops) t h2) in
    let same : f.0 ≡ t = same_tree f.0 t (sym f.1.0 ∙ h2) in
    row_same nodes a.links p f.0 t same (record {
      path = path_named nodes a.links f.0.name p _ _ f.1.1.name (inner_items nodes 0 f.0.regions) f.1.1.sits.row;
      nodes_are = nodes_named nodes f.0.name p _ f.1.1.name
          (inner_nodes nodes a.links f.0.name 0 f.0.regions f.1.1.inner);
    })

pub first_seen : (nodes : Nodes) (next : List ℕ) (p : OpName) (ks : List Inner) (slot v : ℕ) (shown : Nodes)
    (result : Option Kid) → RowOf nodes next p ks → place p nodes ≡ slot → v ≡ slice_index next (head slot)
    → shown ≡ nodes → result ≡ kid_seen shown v → inner_kid result ≡ first_item ks
first_seen nodes next p ks slot v shown result r e q n z =
    let s = first_step nodes next p (head (place p nodes)) ks r.path r.nodes_are in
    let same : slice_index next (head (place p nodes)) ≡ v = ap (λ i. slice_index next (head i)) e ∙ sym q in
    ap inner_kid (z ∙ ap (λ l. kid_seen l v) n) ∙ seen_step nodes p v ks (rw same at s)

pub next_seen : (nodes : Nodes) (next : List ℕ) (p : OpName) (ks us : List Inner) (x : Inner) (vs : List Inner)
    (slot v : ℕ) (shown : Nodes) (result : Option Kid) → RowOf nodes next p ks → ks ≡ us ++ x ∷ vs
    → place x.name nodes ≡ slot → v ≡ slice_index next (item slot) → shown ≡ nodes → result ≡ kid_seen shown v
    → inner_kid result ≡ first_item vs
next_seen nodes next p ks us x vs slot v shown result r w e q l z =
    let s = later_step nodes next p (head (place p nodes)) us x vs (rw w at r.path) (rw w at r.nodes_are) in
    let same : slice_index next (item_of nodes x.name) ≡ v = ap (λ i. slice_index next (item i)) e ∙ sym q in
    ap inner_kid (z ∙ ap (λ m. kid_seen m v) l) ∙ seen_step nodes p v vs (rw same at s)

-- ---- the whole row

pub kid_of : (nodes : Nodes) (p : OpName) (x : Inner) → KidNode nodes p x
    → (k : Kid) × ((kid_seen nodes (item_of nodes x.name) ≡ Some k)
    × (x ≡ record { name = name_of k.id; region = k.region }))
kid_of nodes p x w =
    let s = seen_step nodes p (item_of nodes x.name) (x ∷ []) (refl, w) in
    kid_out (kid_seen nodes (item_of nodes x.name)) x s
  where
    some_inner : (a b : Inner) → Some a ≡ Some b → a ≡ b
    some_inner a b e = cc

    kid_out : (y : Option Kid) (x : Inner) → inner_kid y ≡ Some x
        → (k : Kid) × ((y ≡ Some k) × (x ≡ record { name = name_of k.id; region = k.region }))
    kid_out None x e = cc
    kid_out (Some k) x e = (k, (refl, some_inner x (record { name = name_of k.id; region = k.region }) (sym e)))

pub are_kids : (nodes : Nodes) (p : OpName) (ks : List Inner) → AllKidNodes nodes p ks
    → AreKids nodes (kid_items nodes ks)
are_kids nodes p [] a = tt
are_kids nodes p (x ∷ ks) a = (let k = kid_of nodes p x a.0 in (k.0, k.1.0), are_kids nodes p ks a.1)

pub inner_left : (nodes : Nodes) (p : OpName) (ks : List Inner) → AllKidNodes nodes p ks
    → inner_kids (kids_left nodes (kid_items nodes ks)) ≡ ks
inner_left nodes p [] a = refl
inner_left nodes p (x ∷ ks) a =
    let k = kid_of nodes p x a.0 in
    let rest = inner_left nodes p ks a.1 in
    rw k.1.0 (ap (λ l. record { name = name_of k.0.id; region = k.0.region } ∷ l) rest ∙ ap (λ y. y ∷ ks) (sym k.1.1))

pub left_live : (nodes : Nodes) (vs : List ℕ)
    → Each (λ (k : Kid). seat_at (map seat_of nodes) k.id.slot ≡ Some (name_of k.id)) (kids_left nodes vs)
left_live nodes [] = tt
left_live nodes (v ∷ vs) = before_live nodes (kid_seen nodes v) (kids_left nodes vs) (λ k e. seen_live nodes v k e)
    (left_live nodes vs)
  where
    before_live : (nodes : Nodes) (y : Option Kid) (ks : List Kid)
        → ((k : Kid) → y ≡ Some k → seat_at (map seat_of nodes) k.id.slot ≡ Some (name_of k.id))
        → Each (λ (k : Kid). seat_at (map seat_of nodes) k.id.slot ≡ Some (name_of k.id)) ks
        → Each (λ (k : Kid). seat_at (map seat_of nodes) k.id.slot ≡ Some (name_of k.id)) (kid_before y ks)
    before_live nodes None ks h a = a
    before_live nodes (Some k) ks h a = (h k refl, a)

-- the numbers of the row are what the links have
pub record Whole (nodes : Nodes) (next : List ℕ) (s : ℕ) (name : OpName) (inner : List Inner) : Type 0 where
  pub row : RowOf nodes next name inner
  pub place : place name nodes ≡ s
  pub left : IsLeft next (head s) (head s) (chain next (length next) (head s) (head s))
  pub numbers : chain next (length next) (head s) (head s) ≡ kid_items nodes inner

mutual
  find_count : (x : OpName) (ops : Ops) (t : Tree) → ops_find x ops ≡ Some t → tree_count t ≤ ops_count ops
  find_count x no_ops t e = cc
  find_count x (op n k ds os ts rs rest) t e =
      elim (cases_Bool (eqb n.0 x.0)) [
        | inl q ↦ (
            let here : Tree =
            record { name = n; kind = k; attrs = ds; operands = os; results = ts; regions = rs }
            in
            let w : here ≡ t = same_tree here t (rw q at e) in
            omega (arith, ap tree_count w))
        | inr q ↦ elim (first_cases (regions_find x rs) (ops_find x rest) t (rw q at e)) [
          | inl a ↦ omega (arith, regions_find_count x rs t a)
          | inr a ↦ omega (arith, find_count x rest t a.1)
        ]
      ]

  regions_find_count : (x : OpName) (rs : Regions) (t : Tree) → regions_find x rs ≡ Some t
      → tree_count t ≤ regions_count rs
  regions_find_count x no_regions t e = cc
  regions_find_count x (region args ops rest) t e =
      elim (first_cases (ops_find x ops) (regions_find x rest) t e) [
        | inl a ↦ omega (arith, find_count x ops t a)
        | inr a ↦ omega (arith, regions_find_count x rest t a.1)
      ]

inner_length : (nodes : Nodes) (r : ℕ) (rs : Regions) → length (kid_items nodes (inner_of r rs)) ≡ length (kids rs)
inner_length nodes r rs = ap length (inner_items nodes r rs) ∙ length-map (kids rs) (item_of nodes)

items_lack : (nodes : Nodes) (s : ℕ) (ks : List Inner) → Not (head s) (kid_items nodes ks)
items_lack nodes s [] = tt
items_lack nodes s (k ∷ ks) = ((λ e. omega arith), items_lack nodes s ks)

lacks_of : (b : ℕ) (xs : List ℕ) → Not b xs → Lacks b xs
lacks_of b [] n = tt
lacks_of b (x ∷ xs) n = (n.0, lacks_of b xs n.1)

pub whole : (a : Inside) (v : Layout) (id : OpId) (t : Tree) → IsBed a → layout_of a ≡ v → IsLive v id
    → tree_find (name_of id) v.root ≡ Some t → Whole a.nodes.items a.links id.slot (name_of id) (inner_of 0 t.regions)
whole a v id t i e live q =
    let nodes = a.nodes.items in
    let next = a.links in
    let s = stands a v id i e live in
    let r = row_of a v (name_of id) t i e q in
    let ks = inner_of 0 t.regions in
    let root : (layout_of a).root ≡ v.root = ap (λ (m : Layout). m.root) e in
    let count : a.live ≡ tree_count v.root = rw root at i.count in
    let found = find_count (name_of id) (cons v.root no_ops) t (find_is (name_of id) v.root ∙ q) in
    let within = kids_within t.regions in
    let len = inner_length nodes 0 t.regions in
    let total = i.free.total in
    let sz = s.holds.size in
    let short : length (kid_items nodes ks) < length next = omega arith in
    let path : Path next (head id.slot) (kid_items nodes ks) (head id.slot) = rw s.place at r.path in
    let lacks = items_lack nodes id.slot ks in
    let c = chain_is next (length next) (head id.slot) (kid_items nodes ks) (head id.slot) path lacks short in
    let pl = place_within nodes (name_of id) s.placed in
    record {
      row = r;
      place = s.place;
      left = rw c (record {
        path = path;
        lacks = lacks_of (head id.slot) (kid_items nodes ks) lacks;
        short = short;
        from_in = (let z = s.place in omega arith);
      });
      numbers = c;
    }

-- every live operation is found
pub live_found : (a : Inside) (v : Layout) (id : OpId) → IsBed a → layout_of a ≡ v → IsLive v id
    → (t : Tree) × (tree_find (name_of id) v.root ≡ Some t)
live_found a v id i e live =
    let s = stands a v id i e live in
    let f = ops_found a.nodes.items a.links None (cons v.root no_ops) (name_of id) s.holds.sits s.has in
    (f.0, sym (find_is (name_of id) v.root) ∙ f.1.0)

pub kids_are : (nodes : Nodes) (next : List ℕ) (s : ℕ) (shown : Nodes) (members : List ℕ) (p : OpName)
    (ks : List Inner) → Whole nodes next s p ks → shown ≡ nodes
    → members ≡ chain next (length next) (head s) (head s) → AreKids shown members
kids_are nodes next s shown members p ks w e q =
    let z = q ∙ w.numbers in
    rw (e, z) (are_kids nodes p ks w.row.nodes_are)

pub kids_live : (a : Inside) (v : Layout) (shown : Nodes) (members : List ℕ) → layout_of a ≡ v → shown ≡ a.nodes.items
    → Each (λ k. IsLive v k.id) (kids_left shown members)
kids_live a v shown members e q = rw (← e, q) (left_live a.nodes.items members)

pub kids_inner : (a : Inside) (v : Layout) (p : OpId) (shown : Nodes) (members : List ℕ) (t : Tree) → IsBed a
    → layout_of a ≡ v → IsLive v p → tree_find (name_of p) v.root ≡ Some t → shown ≡ a.nodes.items
    → members ≡ chain a.links (length a.links) (head p.slot) (head p.slot)
    → inner_kids (kids_left shown members) ≡ inner_of 0 t.regions
kids_inner a v p shown members t i e l f q z =
    let nodes = a.nodes.items in
    let w = whole a v p t i e l f in
    let n = z ∙ w.numbers in
    rw (q, n) (inner_left nodes (name_of p) (inner_of 0 t.regions) w.row.nodes_are)

pub names_distinct : (a : Inside) (v : Layout) → IsBed a → layout_of a ≡ v → OpsDistinct (cons v.root no_ops)
names_distinct a v i e =
    let root : (layout_of a).root ≡ v.root = ap (λ (m : Layout). m.root) e in
    let h : Holds a.nodes.items a.links a.root v.root = rw root at i.holds in
    h.distinct
