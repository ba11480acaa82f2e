-- Where a tree sits, nodes and links make that tree.
use Rattle.xf_ir.specs.RuleBlocks.{block_args}
use Rattle.std.proofs.Common.{◌≡◌, ℕ, zero, suc, ◌/◌, ◌<◌, ◌≤◌, List, [], ◌∷◌, ◌++◌, length}
use Rattle.std.proofs.Common.{sym, ◌∙◌, ap, arith, refl, append-nil, length-append, true}
use Rattle.std.proofs.Common.{false}
use Rattle.std.specs.Prelude.{map, Option}
use Rattle.std.specs.List.{filter}
use Rattle.std.proofs.lemmas.List.{map-append, length-map, append_assoc}
use Rattle.std.proofs.lemmas.List.Elements.{filter-append}
use Rattle.std.proofs.lemmas.Bool.{eq-eqb, ne_eqb}
use Rattle.xf_ir.specs.declared.name.OpName.{OpName}
use Rattle.xf_ir.specs.Tree.{Ops, no_ops, op, Regions, no_regions, region}
use Rattle.xf_ir.specs.View.{ops_of}
use Rattle.xf_ir.specs.Count.{ops_count, regions_count}
use Rattle.xf_rings.specs.Ring.{Path, chain}
use Rattle.xf_arena_bed.specs.Home.{Home}
use Rattle.xf_arena_tree.specs.Names.{heads, kids}
use Rattle.xf_arena_bed.specs.Sits.{Nodes, place, head, item, item_of, home_of, OpsSit, RegionsSit}
use Rattle.xf_arena_bed.specs.Rebuilt.{stands_in, in_region, regions_from, tree_at}

pub half_head : (s : ℕ) → head s / 2 ≡ s
half_head s = omega arith

pub half_item : (s : ℕ) → item s / 2 ≡ s
half_item s = omega arith

-- no number of the list is b
abbrev pub Not : ℕ → List ℕ → Type 0
Not b [] = Unit {0}
Not b (x ∷ xs) = (x ≡ b → ⊥) × Not b xs

pub chain_is : (next : List ℕ) (fuel a : ℕ) (xs : List ℕ) (b : ℕ) → Path next a xs b → Not b xs → length xs < fuel
    → chain next fuel a b ≡ xs
chain_is next zero a xs b p d h = absurd (omega arith)
chain_is next (suc fuel) a [] b p d h = rw (p, eq-eqb b b refl) refl
chain_is next (suc fuel) a (x ∷ xs) b p d h =
    rw (p.0, ne_eqb x b d.0) (ap (λ l. x ∷ l) (chain_is next fuel x xs b p.1 d.1 (omega arith)))

pub items_not_head : (nodes : Nodes) (s : ℕ) (ns : List OpName) → Not (head s) (map (item_of nodes) ns)
items_not_head nodes s [] = tt
items_not_head nodes s (n ∷ ns) = ((λ e. omega arith), items_not_head nodes s ns)

mutual
  pub heads_within : (ops : Ops) → length (heads ops) ≤ ops_count ops
  heads_within no_ops = omega arith
  heads_within (op n k ds os ts rs rest) = omega (arith, heads_within rest)

  pub kids_within : (rs : Regions) → length (kids rs) ≤ regions_count rs
  kids_within no_regions = omega arith
  kids_within (region args ops rest) =
      omega (arith, heads_within ops, kids_within rest, length-append (heads ops) (kids rest))

sits_in : (nodes : Nodes) (next : List ℕ) (home : Option Home) (ops : Ops) (r : ℕ) → OpsSit nodes next home ops
    → stands_in r home ≡ true → filter (in_region nodes r) (map (item_of nodes) (heads ops))
    ≡ map (item_of nodes) (heads ops)
sits_in nodes next home no_ops r s e = refl
sits_in nodes next home (op n k ds os ts rs rest) r s e =
    let q : in_region nodes r (item_of nodes n) ≡ true = rw (half_item (place n nodes), s.0.node) e in
    rw q (ap (λ l. item_of nodes n ∷ l) (sits_in nodes next home rest r s.1.1 e))

sits_out : (nodes : Nodes) (next : List ℕ) (home : Option Home) (ops : Ops) (r : ℕ) → OpsSit nodes next home ops
    → stands_in r home ≡ false → filter (in_region nodes r) (map (item_of nodes) (heads ops)) ≡ []
sits_out nodes next home no_ops r s e = refl
sits_out nodes next home (op n k ds os ts rs rest) r s e =
    let q : in_region nodes r (item_of nodes n) ≡ false = rw (half_item (place n nodes), s.0.node) e in
    rw q (sits_out nodes next home rest r s.1.1 e)

later_out : (nodes : Nodes) (next : List ℕ) (n : OpName) (i : ℕ) (rs : Regions) (r : ℕ)
    → RegionsSit nodes next n i rs → r < i → filter (in_region nodes r) (map (item_of nodes) (kids rs)) ≡ []
later_out nodes next n i no_regions r s h = refl
later_out nodes next n i (region args ops rest) r s h =
    let a = sits_out nodes next (home_of nodes n i) ops r s.0 (ne_eqb i r (λ e. omega arith)) in
    let b = later_out nodes next n (suc i) rest r s.1 (omega arith) in
    let f = item_of nodes in
    let p = in_region nodes r in
    ap (filter p) (map-append f (heads ops) (kids rest)) ∙ filter-append p (map f (heads ops)) (map f (kids rest))
    ∙ ap (λ l. l ++ filter p (map f (kids rest))) a ∙ b

-- none of these stands in this region or a later one
abbrev pub Earlier : Nodes → ℕ → List ℕ → Type 0
Earlier nodes r is = (j : ℕ) → r ≤ j → filter (in_region nodes j) is ≡ []

mutual
  pub ops_back : (nodes : Nodes) (next : List ℕ) (width depth : ℕ) (home : Option Home) (ops : Ops)
      → OpsSit nodes next home ops → ops_count ops ≤ width → ops_count ops ≤ depth
      → ops_of (map (tree_at nodes next width depth) (map (item_of nodes) (heads ops))) ≡ ops
  ops_back nodes next width depth home no_ops s w d = refl
  ops_back nodes next width zero home (op n k ds os ts rs rest) s w d = absurd (omega arith)
  ops_back nodes next width (suc depth) home (op n k ds os ts rs rest) s w d =
      let row : chain next width (head (place n nodes)) (head (place n nodes)) ≡ map (item_of nodes) (kids rs) =
      chain_is next width _ _ _ s.0.row (items_not_head nodes (place n nodes) (kids rs))
      (omega (arith, length-map (kids rs) (item_of nodes), kids_within rs)) in
      let r = regions_back nodes next width depth n 0 rs [] s.1.0 (λ j h. refl) (omega arith) (omega arith) in
      let t : tree_at nodes next width (suc depth) (item_of nodes n)
      ≡ record { name = n; kind = k; attrs = ds; operands = os; results = ts; regions = rs } =
      rw (half_item (place n nodes), s.0.node, row, r) refl in
      rw t (ap (op n k ds os ts rs) (ops_back nodes next width (suc depth) home rest s.1.1 (omega arith) (omega arith)))

  pub regions_back : (nodes : Nodes) (next : List ℕ) (width depth : ℕ) (n : OpName) (r : ℕ) (rs : Regions)
      (pre : List ℕ) → RegionsSit nodes next n r rs → Earlier nodes r pre → regions_count rs ≤ width
      → regions_count rs ≤ depth → regions_from nodes (tree_at nodes next width depth) r (block_args rs)
      (pre ++ map (item_of nodes) (kids rs)) ≡ rs
  regions_back nodes next width depth n r no_regions pre s e w d = refl
  regions_back nodes next width depth n r (region args ops rest) pre s e w d =
      let f = item_of nodes in
      let hs = map f (heads ops) in
      let ks = map f (kids rest) in
      let p = in_region nodes r in
      let split : pre ++ map f (heads ops ++ kids rest) ≡ (pre ++ hs) ++ ks =
      ap (λ l. pre ++ l) (map-append f (heads ops) (kids rest)) ∙ sym (append_assoc pre hs ks) in
      let here : filter p ((pre ++ hs) ++ ks) ≡ hs =
      filter-append p (pre ++ hs) ks
      ∙ ap (λ l. l ++ filter p ks) (filter-append p pre hs ∙ ap (λ l. l ++ filter p hs) (e r (omega arith))
      ∙ sits_in nodes next (home_of nodes n r) ops r s.0 (eq-eqb r r refl))
      ∙ ap (λ l. hs ++ l) (later_out nodes next n (suc r) rest r s.1 (omega arith)) ∙ append-nil hs in
      let more : Earlier nodes (suc r) (pre ++ hs) = λ j h. filter-append (in_region nodes j) pre hs
      ∙ ap (λ l. l ++ filter (in_region nodes j) hs) (e j (omega arith))
      ∙ sits_out nodes next (home_of nodes n r) ops j s.0 (ne_eqb r j (λ q. omega arith)) in
      let a = ops_back nodes next width depth (home_of nodes n r) ops s.0 (omega arith) (omega arith) in
      let b = regions_back nodes next width depth n (suc r) rest (pre ++ hs) s.1 more (omega arith) (omega arith) in
      rw (split, here, a, b) refl
