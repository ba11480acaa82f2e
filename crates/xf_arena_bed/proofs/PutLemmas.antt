-- A leaf put among the nodes and links.
use Rattle.xf_ir.specs.declared.kind.Attr.{Attr}
use Rattle.xf_type.specs.declared.payload_type.PayloadType.{PayloadType}
use Rattle.xf_ir.specs.RuleBlocks.{block_args}
use Rattle.std.proofs.Common.{◌≡◌, ℕ, zero, suc, ◌+◌, ◌*◌, ◌<◌, ◌≤◌, List, [], ◌∷◌, ◌++◌, length, take, drop}
use Rattle.std.proofs.Common.{sym, ◌∙◌, ap, arith, refl, Bool, true}
use Rattle.std.proofs.Common.{false, cond, eqb, ◌⊎◌, inl, inr}
use Rattle.std.specs.Prelude.{map, Option, Some, None}
use Rattle.std.proofs.lemmas.List.{map-append, append_assoc}
use Rattle.std.proofs.lemmas.List.{take-append-drop}
use Rattle.std.proofs.lemmas.Bool.{eqb-true, eq-eqb, cases_Bool, or_parts}
use Rattle.xf_ir.specs.declared.name.OpName.{OpName}
use Rattle.xf_ir.specs.declared.name.ValueName.{ValueName}
use Rattle.xf_ir.specs.declared.kind.Kind.{Kind}
use Rattle.xf_ir.specs.Tree.{Ops, no_ops, op, Regions, no_regions, region, Tree, cons}
use Rattle.xf_rings.specs.Ring.{Path, linked}
use Rattle.xf_rings.specs.Groups.{Lacks, AllOnce}
use Rattle.xf_rings.proofs.PathLemmas.{linked_other, path_beside, path_put}
use Rattle.xf_arena_bed.specs.declared.node.Node.{Node}
use Rattle.xf_arena_bed.specs.Home.{Home}
use Rattle.xf_arena_tree.specs.Names.{heads, kids, ops_has, regions_has, OpsDistinct, RegionsDistinct}
use Rattle.xf_arena_bed.specs.Sits.{Nodes, node_at, place, head, item, item_of, Sits, home_of, OpsSit}
use Rattle.xf_arena_bed.specs.Sits.{RegionsSit}
use Rattle.xf_arena_tree.specs.Without.{OpsWhere, RegionsWhere}
use Rattle.xf_ir.specs.Spots.{ops_insert, regions_insert}
use Rattle.xf_arena_tree.specs.Puts.{ops_put, regions_put, InRange, kids_before, kids_after}
use Rattle.xf_arena_bed.proofs.PlaceLemmas.{sits_placed, Placed, AllPlaced, kids_placed}
use Rattle.xf_arena_bed.proofs.PlaceLemmas.{place_within}
use Rattle.xf_arena_tree.proofs.WithoutLemmas.{parts3}
use Rattle.xf_arena_bed.proofs.CutLemmas.{Once, lacks, kids_once}
use Rattle.xf_arena_bed.proofs.LeafLemmas.{same_name}

-- the tree side
pub kids_split : (r i : ℕ) (rs : Regions) → InRange r i rs → kids rs ≡ kids_before r i rs ++ kids_after r i rs
kids_split r i no_regions h = absurd h
kids_split zero i (region args ops rest) h = ap (λ l. l ++ kids rest) (sym (take-append-drop i (heads ops)))
    ∙ append_assoc (take i (heads ops)) (drop i (heads ops)) (kids rest)
kids_split (suc r) i (region args ops rest) h = ap (λ l. heads ops ++ l) (kids_split r i rest h)
    ∙ sym (append_assoc (heads ops) (kids_before r i rest) (kids_after r i rest))

heads_insert : (i : ℕ) (t : Tree) (ops : Ops) → i ≤ length (heads ops)
    → heads (ops_insert i t ops) ≡ take i (heads ops) ++ t.name ∷ drop i (heads ops)
heads_insert zero t ops h = refl
heads_insert (suc i) t no_ops h = absurd (omega arith)
heads_insert (suc i) t (op n k ds os ts rs rest) h = ap (λ l. n ∷ l) (heads_insert i t rest (omega arith))

pub kids_insert : (r i : ℕ) (t : Tree) (rs : Regions) → InRange r i rs
    → kids (regions_insert r i t rs) ≡ kids_before r i rs ++ t.name ∷ kids_after r i rs
kids_insert r i t no_regions h = absurd h
kids_insert zero i t (region args ops rest) h = ap (λ l. l ++ kids rest) (heads_insert i t ops h)
    ∙ append_assoc (take i (heads ops)) (t.name ∷ drop i (heads ops)) (kids rest)
kids_insert (suc r) i t (region args ops rest) h = ap (λ l. heads ops ++ l) (kids_insert r i t rest h)
    ∙ sym (append_assoc (heads ops) (kids_before r i rest) (t.name ∷ kids_after r i rest))

args_insert : (r i : ℕ) (t : Tree) (rs : Regions) → block_args (regions_insert r i t rs) ≡ block_args rs
args_insert r i t no_regions = refl
args_insert zero i t (region args ops rest) = refl
args_insert (suc r) i t (region args ops rest) = ap (λ l. args ∷ l) (args_insert r i t rest)

args_put : (p : OpName) (r i : ℕ) (t : Tree) (rs : Regions) → block_args (regions_put p r i t rs) ≡ block_args rs
args_put p r i t no_regions = refl
args_put p r i t (region args ops rest) = ap (λ l. args ∷ l) (args_put p r i t rest)

heads_put : (p : OpName) (r i : ℕ) (t : Tree) (ops : Ops) → heads (ops_put p r i t ops) ≡ heads ops
heads_put p r i t no_ops = refl
heads_put p r i t (op n k ds os ts rs rest) =
    elim (eqb n.0 p.0) as (λ b. heads
    (cond b (op n k ds os ts (regions_insert r i t rs) rest)
    (op n k ds os ts (regions_put p r i t rs) (ops_put p r i t rest))) ≡ n ∷ heads rest)
    [ true ↦ refl | false ↦ ap (λ l. n ∷ l) (heads_put p r i t rest) ]

kids_put : (p : OpName) (r i : ℕ) (t : Tree) (rs : Regions) → kids (regions_put p r i t rs) ≡ kids rs
kids_put p r i t no_regions = refl
kids_put p r i t (region args ops rest) = rw (heads_put p r i t ops, kids_put p r i t rest) refl

-- the link side: after the last of the first part
abbrev pub last : ℕ → List ℕ → ℕ
last a [] = a
last a (x ∷ xs) = last x xs

abbrev AllBelow : ℕ → List ℕ → Type 0
AllBelow n [] = Unit {0}
AllBelow n (x ∷ xs) = (x < n) × AllBelow n xs

last_other : (b a : ℕ) (xs : List ℕ) → Lacks b (a ∷ xs) → last a xs ≡ b → ⊥
last_other b a [] l e = l.0 e
last_other b a (x ∷ xs) l e = last_other b x xs l.1 e

lacks_left : (b : ℕ) (xs ys : List ℕ) → Lacks b (xs ++ ys) → Lacks b xs
lacks_left b [] ys l = tt
lacks_left b (x ∷ xs) ys l = (l.0, lacks_left b xs ys l.1)

flip_lacks : (a e : ℕ) → (a ≡ e → ⊥) → e ≡ a → ⊥
flip_lacks a e n q = n (sym q)

-- put after the last of the first part
pub path_insert : (next : List ℕ) (e a : ℕ) (xs ys : List ℕ) (b : ℕ) → e < length next → a < length next
    → AllBelow (length next) (xs ++ ys) → (a ≡ e → ⊥) → Lacks e (xs ++ ys) → Lacks a (xs ++ ys) → AllOnce (xs ++ ys)
    → Path next a (xs ++ ys) b → Path (linked (last a xs) e next) a (xs ++ e ∷ ys) b
path_insert next e a [] ys b he ha w ne le la o q = path_put next a e ys b ha he (flip_lacks a e ne) q la le
path_insert next e a (x ∷ xs) ys b he ha w ne le la o q =
    let la2 : Lacks a (x ∷ xs) = (la.0, lacks_left a xs ys la.1) in (
      linked_other next (last x xs) e a (λ i. last_other a x xs la2 (sym i)) ne
          ∙ q.0,
      path_insert next e x xs ys b he w.0 w.1 le.0 le.1 o.0 o.1 q.1,
    )

once_items : (nodes : Nodes) (ns : List OpName) → AllPlaced nodes ns → ((o : OpName) → Once o ns)
    → AllOnce (map (item_of nodes) ns)
once_items nodes [] p h = tt
once_items nodes (n ∷ ns) p h =
    (lacks nodes n ns p.0 p.1 ((h n).0 (eq-eqb n.0 n.0 refl)), once_items nodes ns p.1 (λ o. (h o).1))

items_below : (nodes : Nodes) (size : ℕ) (ns : List OpName) → size ≡ 2 * length nodes → AllPlaced nodes ns
    → AllBelow size (map (item_of nodes) ns)
items_below nodes size [] e p = tt
items_below nodes size (n ∷ ns) e p = (omega (arith, place_within nodes n p.0), items_below nodes size ns e p.1)

head_lacks : (nodes : Nodes) (s : ℕ) (ns : List OpName) → Lacks (head s) (map (item_of nodes) ns)
head_lacks nodes s [] = tt
head_lacks nodes s (n ∷ ns) = ((λ e. omega arith), head_lacks nodes s ns)

-- what stands under an operation
abbrev pub under_home : OpName → Option Home → Bool
under_home m None = false
under_home m (Some h) = eqb h.0.serial m.0

abbrev pub under : OpName → Option Node → Bool
under m None = false
under m (Some y) = under_home m y.parent

abbrev pub AllUnder : Nodes → OpName → List OpName → Type 0
AllUnder nodes m [] = Unit {0}
AllUnder nodes m (n ∷ ns) = (under m (node_at nodes (place n nodes)) ≡ true) × AllUnder nodes m ns

heads_under : (nodes : Nodes) (next : List ℕ) (m : OpName) (r : ℕ) (ops : Ops)
    → OpsSit nodes next (home_of nodes m r) ops → AllUnder nodes m (heads ops)
heads_under nodes next m r no_ops s = tt
heads_under nodes next m r (op n k ds os ts rs rest) s =
    (rw s.0.node (eq-eqb m.0 m.0 refl), heads_under nodes next m r rest s.1.1)

under_append : (nodes : Nodes) (m : OpName) (ns ms : List OpName) → AllUnder nodes m ns → AllUnder nodes m ms
    → AllUnder nodes m (ns ++ ms)
under_append nodes m [] ms a b = b
under_append nodes m (n ∷ ns) ms a b = (a.0, under_append nodes m ns ms a.1 b)

pub kids_under : (nodes : Nodes) (next : List ℕ) (m : OpName) (r : ℕ) (rs : Regions) → RegionsSit nodes next m r rs
    → AllUnder nodes m (kids rs)
kids_under nodes next m r no_regions s = tt
kids_under nodes next m r (region args ops rest) s =
    under_append nodes m (heads ops) (kids rest) (heads_under nodes next m r ops s.0)
    (kids_under nodes next m (suc r) rest s.1)

parent_of : (m p : OpName) (h : Option Home) → under_home m h ≡ true → under_home p h ≡ true → m.0 ≡ p.0
parent_of m p None a b = cc
parent_of m p (Some h) a b = sym (eqb-true h.0.serial m.0 a) ∙ eqb-true h.0.serial p.0 b

pub one_parent : (m p : OpName) (y : Option Node) → under m y ≡ true → under p y ≡ true → m.0 ≡ p.0
one_parent m p None a b = cc
one_parent m p (Some y) a b = parent_of m p y.parent a b

-- a node was put in a free slot, and linked after `before`
pub record Put (nodes nodes2 : Nodes) (next next2 : List ℕ) (p : OpName) (s before : ℕ) : Type 0 where
  pub size : length next ≡ 2 * length nodes
  pub within : s < length nodes
  pub fresh : (x : OpName) → Placed nodes x → place x nodes ≡ s → ⊥
  pub places : (x : OpName) → Placed nodes x → place x nodes2 ≡ place x nodes
  pub kept : (x : OpName) → Placed nodes x → node_at nodes2 (place x nodes) ≡ node_at nodes (place x nodes)
  pub links : next2 ≡ linked before (item s) next
  pub no_head : (m : OpName) → Placed nodes m → eqb m.0 p.0 ≡ false → head (place m nodes) ≡ before → ⊥
  pub no_item : (m x : OpName) → Placed nodes x → under m (node_at nodes (place x nodes)) ≡ true
      → eqb m.0 p.0 ≡ false → item_of nodes x ≡ before → ⊥

pub items_same : (nodes nodes2 : Nodes) (ns : List OpName)
    → ((x : OpName) → Placed nodes x → place x nodes2 ≡ place x nodes) → AllPlaced nodes ns
    → map (item_of nodes2) ns ≡ map (item_of nodes) ns
items_same nodes nodes2 [] h p = refl
items_same nodes nodes2 (n ∷ ns) h p = rw (h n p.0) (ap (λ l. item_of nodes n ∷ l) (items_same nodes nodes2 ns h p.1))

lacks_before : (nodes nodes2 : Nodes) (next next2 : List ℕ) (p : OpName) (s before : ℕ)
    (c : Put nodes nodes2 next next2 p s before) (m : OpName) (ns : List OpName) → eqb m.0 p.0 ≡ false
    → AllPlaced nodes ns → AllUnder nodes m ns → Lacks before (map (item_of nodes) ns)
lacks_before nodes nodes2 next next2 p s before c m [] f a u = tt
lacks_before nodes nodes2 next next2 p s before c m (n ∷ ns) f a u =
    (c.no_item m n a.0 u.0 f, lacks_before nodes nodes2 next next2 p s before c m ns f a.1 u.1)

lacks_fresh : (nodes nodes2 : Nodes) (next next2 : List ℕ) (p : OpName) (s before : ℕ)
    (c : Put nodes nodes2 next next2 p s before) (ns : List OpName) → AllPlaced nodes ns
    → Lacks (item s) (map (item_of nodes) ns)
lacks_fresh nodes nodes2 next next2 p s before c [] a = tt
lacks_fresh nodes nodes2 next next2 p s before c (n ∷ ns) a =
    ((λ e. c.fresh n a.0 (omega arith)), lacks_fresh nodes nodes2 next next2 p s before c ns a.1)

sits_beside : (nodes nodes2 : Nodes) (next next2 : List ℕ) (p : OpName) (s before : ℕ)
    (c : Put nodes nodes2 next next2 p s before) (home : Option Home) (n : OpName) (k : Kind) (ds : List Attr)
    (os : List ValueName) (cs : List PayloadType) (args : List (List PayloadType)) (names : List OpName)
    → Sits nodes next home n k ds os cs args names → eqb n.0 p.0 ≡ false → AllPlaced nodes names
    → AllUnder nodes n names → Sits nodes2 next2 home n k ds os cs args names
sits_beside nodes nodes2 next next2 p s before c home n k ds os cs args names st f a u =
    let pl = sits_placed nodes next home n _ st.node refl in
    let p2 = c.places n pl in
    let row = path_beside next before (item s) (head (place n nodes)) (map (item_of nodes) names)
    (head (place n nodes)) st.row (c.no_head n pl f) (λ e. omega arith)
    (lacks_before nodes nodes2 next next2 p s before c n names f a u)
    (lacks_fresh nodes nodes2 next next2 p s before c names a) in
    record {
      node = rw (p2, c.kept n pl) st.node;
      row = rw (p2, items_same nodes nodes2 names c.places a, c.links) row;
    }

mutual
  pub ops_beside : (nodes nodes2 : Nodes) (next next2 : List ℕ) (p : OpName) (s before : ℕ)
      (c : Put nodes nodes2 next next2 p s before) (home : Option Home) (ops : Ops) → OpsSit nodes next home ops
      → ops_has p ops ≡ false → OpsSit nodes2 next2 home ops
  ops_beside nodes nodes2 next next2 p s before c home no_ops st f = tt
  ops_beside nodes nodes2 next next2 p s before c home (op n k ds os ts rs rest) st f =
      let q = parts3 (eqb n.0 p.0) (regions_has p rs) (ops_has p rest) f in (
        sits_beside nodes nodes2 next next2 p s before c home n k ds os ts (block_args rs) (kids rs) st.0 q.0
            (kids_placed nodes next n 0 rs st.1.0) (kids_under nodes next n 0 rs st.1.0),
        (
          regions_beside nodes nodes2 next next2 p s before c n 0 rs
              (sits_placed nodes next home n _ st.0.node refl) st.1.0 q.1.0,
          ops_beside nodes nodes2 next next2 p s before c home rest st.1.1 q.1.1,
        ),
      )

  pub regions_beside : (nodes nodes2 : Nodes) (next next2 : List ℕ) (p : OpName) (s before : ℕ)
      (c : Put nodes nodes2 next next2 p s before) (n : OpName) (r : ℕ) (rs : Regions) → Placed nodes n
      → RegionsSit nodes next n r rs → regions_has p rs ≡ false → RegionsSit nodes2 next2 n r rs
  regions_beside nodes nodes2 next next2 p s before c n r no_regions pl st f = tt
  regions_beside nodes nodes2 next next2 p s before c n r (region args ops rest) pl st f =
      let q = or_parts (ops_has p ops) (regions_has p rest) f in (
        rw (c.places n pl) (ops_beside nodes nodes2 next next2 p s before c (home_of nodes n r) ops st.0 q.0),
        regions_beside nodes nodes2 next next2 p s before c n (suc r) rest pl st.1 q.1,
      )

-- the new one among the others of its block
insert_sits : (nodes : Nodes) (next : List ℕ) (home : Option Home) (i : ℕ) (t : Tree) (ops : Ops)
    → OpsSit nodes next home ops → OpsSit nodes next home (cons t no_ops) → OpsSit nodes next home (ops_insert i t ops)
insert_sits nodes next home zero t ops st l = (l.0, (l.1.0, st))
insert_sits nodes next home (suc i) t no_ops st l = tt
insert_sits nodes next home (suc i) t (op n k ds os ts rs rest) st l =
    (st.0, (st.1.0, insert_sits nodes next home i t rest st.1.1 l))

insert_regions_sit : (nodes : Nodes) (next : List ℕ) (n : OpName) (j r i : ℕ) (t : Tree) (rs : Regions)
    → RegionsSit nodes next n j rs → OpsSit nodes next (home_of nodes n (j + r)) (cons t no_ops)
    → RegionsSit nodes next n j (regions_insert r i t rs)
insert_regions_sit nodes next n j r i t no_regions st l = tt
insert_regions_sit nodes next n j zero i t (region args ops rest) st l =
    let e : j + 0 ≡ j = omega arith in
    (insert_sits nodes next (home_of nodes n j) i t ops st.0 (rw e at l), st.1)
insert_regions_sit nodes next n j (suc r) i t (region args ops rest) st l =
    let e : j + suc r ≡ suc j + r = omega arith in
    (st.0, insert_regions_sit nodes next n (suc j) r i t rest st.1 (rw e at l))

-- where p's children are split
pub record SplitAt (nodes : Nodes) (p : OpName) (r i before : ℕ) (rs : Regions) : Type 0 where
  pub in_range : InRange r i rs
  pub is : before ≡ last (head (place p nodes)) (map (item_of nodes) (kids_before r i rs))

pub placed_left : (nodes : Nodes) (ns ms : List OpName) → AllPlaced nodes (ns ++ ms) → AllPlaced nodes ns
placed_left nodes [] ms a = tt
placed_left nodes (n ∷ ns) ms a = (a.0, placed_left nodes ns ms a.1)

placed_right : (nodes : Nodes) (ns ms : List OpName) → AllPlaced nodes (ns ++ ms) → AllPlaced nodes ms
placed_right nodes [] ms a = a
placed_right nodes (n ∷ ns) ms a = placed_right nodes ns ms a.1

row_put : (nodes nodes2 : Nodes) (next next2 : List ℕ) (p : OpName) (s before : ℕ)
    (c : Put nodes nodes2 next next2 p s before) (r i : ℕ) (t : Tree) (rs : Regions) → Placed nodes p
    → place t.name nodes2 ≡ s → SplitAt nodes p r i before rs → RegionsSit nodes next p 0 rs → RegionsDistinct rs
    → Path next (head (place p nodes)) (map (item_of nodes) (kids rs)) (head (place p nodes))
    → Path next2 (head (place p nodes2)) (map (item_of nodes2) (kids (regions_insert r i t rs))) (head (place p nodes2))
row_put nodes nodes2 next next2 p s before c r i t rs pl tp sp st d q =
    let us = kids_before r i rs in
    let bs = kids_after r i rs in
    let f = item_of nodes in
    let h = head (place p nodes) in
    let e : kids rs ≡ us ++ bs = kids_split r i rs sp.in_range in
    let a : AllPlaced nodes (us ++ bs) = rw e at (kids_placed nodes next p 0 rs st) in
    let m : map f (kids rs) ≡ map f us ++ map f bs = ap (map f) e ∙ map-append f us bs in
    let q2 : Path next h (map f us ++ map f bs) h = rw m at q in
    let o : AllOnce (map f us ++ map f bs) =
    rw m at (once_items nodes (kids rs) (kids_placed nodes next p 0 rs st) (λ x. kids_once x rs d)) in
    let w : AllBelow (length next) (map f us ++ map f bs) =
    rw m at (items_below nodes (length next) (kids rs) c.size (kids_placed nodes next p 0 rs st)) in
    let l1 : Lacks (item s) (map f us ++ map f bs) =
    rw m at (lacks_fresh nodes nodes2 next next2 p s before c (kids rs) (kids_placed nodes next p 0 rs st)) in
    let l2 : Lacks h (map f us ++ map f bs) = rw m at (head_lacks nodes (place p nodes) (kids rs)) in
    let row = path_insert next (item s) h (map f us) (map f bs) h (omega (arith, c.size, c.within))
    (omega (arith, c.size, place_within nodes p pl)) w (λ k. omega arith) l1 l2 o q2 in
    let same : map (item_of nodes2) us ++ item_of nodes2 t.name ∷ map (item_of nodes2) bs
    ≡ map f us ++ item s ∷ map f bs =
    rw (
      items_same nodes nodes2 us c.places (placed_left nodes us bs a),
      items_same nodes nodes2 bs c.places (placed_right nodes us bs a),
      tp,
    ) refl in
    let lst : map (item_of nodes2) (kids (regions_insert r i t rs)) ≡ map f us ++ item s ∷ map f bs =
    ap (map (item_of nodes2)) (kids_insert r i t rs sp.in_range) ∙ map-append (item_of nodes2) us (t.name ∷ bs)
    ∙ same in
    rw (c.places p pl, lst, c.links, sp.is) row

mutual
  pub ops_put_sit : (nodes nodes2 : Nodes) (next next2 : List ℕ) (p : OpName) (s before : ℕ)
      (c : Put nodes nodes2 next next2 p s before) (r i : ℕ) (t : Tree) (home : Option Home) (ops : Ops)
      → place t.name nodes2 ≡ s → OpsSit nodes2 next2 (home_of nodes p r) (cons t no_ops)
      → OpsSit nodes next home ops → OpsDistinct ops → OpsWhere p (SplitAt nodes p r i before) ops
      → OpsSit nodes2 next2 home (ops_put p r i t ops)
  ops_put_sit nodes nodes2 next next2 p s before c r i t home no_ops tp l st d w = tt
  ops_put_sit nodes nodes2 next next2 p s before c r i t home (op n k ds os ts rs rest) tp l st d w =
      elim (cases_Bool (eqb n.0 p.0)) [
        | inl e ↦
            let q : n ≡ p = same_name n p e in
            let pl : Placed nodes n = sits_placed nodes next home n _ st.0.node refl in
            let row = row_put nodes nodes2 next next2 p s before c r i t rs (rw q at pl) tp (w.0 e)
            (rw q at st.1.0) d.1.1.1.0 (rw q at st.0.row) in
            let home_is : home_of nodes n r ≡ home_of nodes2 n r = rw (c.places n pl) refl in
            let l2 : OpsSit nodes2 next2 (home_of nodes n r) (cons t no_ops) = rw q l in
            let zero_is : 0 + r ≡ r = omega arith in
            rw e (
              record { node = rw (c.places n pl, args_insert r i t rs, c.kept n pl) st.0.node; row = rw (← q) at row },
              (
                insert_regions_sit nodes2 next2 n 0 r i t rs
                    (regions_beside nodes nodes2 next next2 p s before c n 0 rs pl st.1.0 (rw q at d.0))
                    (rw (zero_is, ← home_is) l2),
                ops_beside nodes nodes2 next next2 p s before c home rest st.1.1 (rw q at d.1.0),
              ),
            )
        | inr f ↦ rw f (
          rw (args_put p r i t rs, kids_put p r i t rs)
              (sits_beside nodes nodes2 next next2 p s before c home n k ds os ts (block_args rs) (kids rs) st.0 f
              (kids_placed nodes next n 0 rs st.1.0) (kids_under nodes next n 0 rs st.1.0)),
          (
            regions_put_sit nodes nodes2 next next2 p s before c r i t n 0 rs
                (sits_placed nodes next home n _ st.0.node refl) tp l st.1.0 d.1.1.1.0 w.1.0,
            ops_put_sit nodes nodes2 next next2 p s before c r i t home rest tp l st.1.1 d.1.1.1.1 w.1.1,
          ),
        )
      ]

  pub regions_put_sit : (nodes nodes2 : Nodes) (next next2 : List ℕ) (p : OpName) (s before : ℕ)
      (c : Put nodes nodes2 next next2 p s before) (r i : ℕ) (t : Tree) (n : OpName) (j : ℕ) (rs : Regions)
      → Placed nodes n → place t.name nodes2 ≡ s → OpsSit nodes2 next2 (home_of nodes p r) (cons t no_ops)
      → RegionsSit nodes next n j rs → RegionsDistinct rs → RegionsWhere p (SplitAt nodes p r i before) rs
      → RegionsSit nodes2 next2 n j (regions_put p r i t rs)
  regions_put_sit nodes nodes2 next next2 p s before c r i t n j no_regions pl tp l st d w = tt
  regions_put_sit nodes nodes2 next next2 p s before c r i t n j (region args ops rest) pl tp l st d w = (
    rw (c.places n pl) (ops_put_sit nodes nodes2 next next2 p s before c r i t
        (home_of nodes n j) ops tp l st.0 d.1.0 w.0),
    regions_put_sit nodes nodes2 next next2 p s before c r i t n (suc j) rest pl tp l st.1 d.1.1 w.1,
  )

-- after the sentinel of p, or after a child of p
pub record KidItem (nodes : Nodes) (p : OpName) (before : ℕ) : Type 0 where
  pub name : OpName
  pub is : before ≡ item_of nodes name
  pub placed : Placed nodes name
  pub below : under p (node_at nodes (place name nodes)) ≡ true

abbrev pub IsBefore : Nodes → OpName → ℕ → Type 0
IsBefore nodes p before = (before ≡ head (place p nodes)) ⊎ KidItem nodes p before
