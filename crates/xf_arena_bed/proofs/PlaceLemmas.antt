-- The slot of a name.
use Rattle.std.proofs.Common.{◌≡◌, ℕ, zero, suc, ◌<◌, List, [], ◌∷◌, ◌++◌, length}
use Rattle.std.proofs.Common.{slice_set, sym, ◌∙◌, arith, refl, true, false, inl}
use Rattle.std.proofs.Common.{inr}
use Rattle.std.specs.Prelude.{Option, Some, None}
use Rattle.std.proofs.lemmas.Bool.{eqb-true, eq-eqb, cases_Bool}
use Rattle.xf_ir.specs.declared.name.OpName.{OpName}
use Rattle.xf_ir.specs.Tree.{Ops, no_ops, op, Regions, no_regions, region}
use Rattle.xf_arena_bed.specs.declared.node.Node.{Node}
use Rattle.xf_arena_bed.specs.Home.{Home}
use Rattle.xf_arena_tree.specs.Names.{heads, kids}
use Rattle.xf_arena_bed.specs.Sits.{Nodes, node_at, holds, place, item_of, home_of, OpsSit}
use Rattle.xf_arena_bed.specs.Sits.{RegionsSit}

-- the name has a slot
abbrev pub Placed : Nodes → OpName → Type 0
Placed nodes n = holds n (node_at nodes (place n nodes)) ≡ true

abbrev pub AllPlaced : Nodes → List OpName → Type 0
AllPlaced nodes [] = Unit {0}
AllPlaced nodes (n ∷ ns) = Placed nodes n × AllPlaced nodes ns

pub sits_placed : (nodes : Nodes) (next : List ℕ) (home : Option Home) (n : OpName) (y : Node)
    → node_at nodes (place n nodes) ≡ Some y → y.name ≡ n → Placed nodes n
sits_placed nodes next home n y e q = rw (e, q) (eq-eqb n.0 n.0 refl)

pub heads_placed : (nodes : Nodes) (next : List ℕ) (home : Option Home) (ops : Ops) → OpsSit nodes next home ops
    → AllPlaced nodes (heads ops)
heads_placed nodes next home no_ops s = tt
heads_placed nodes next home (op n k ds os ts rs rest) s =
    (sits_placed nodes next home n _ s.0.node refl, heads_placed nodes next home rest s.1.1)

pub placed_append : (nodes : Nodes) (ns ms : List OpName) → AllPlaced nodes ns → AllPlaced nodes ms
    → AllPlaced nodes (ns ++ ms)
placed_append nodes [] ms a b = b
placed_append nodes (n ∷ ns) ms a b = (a.0, placed_append nodes ns ms a.1 b)

pub kids_placed : (nodes : Nodes) (next : List ℕ) (n : OpName) (r : ℕ) (rs : Regions) → RegionsSit nodes next n r rs
    → AllPlaced nodes (kids rs)
kids_placed nodes next n r no_regions s = tt
kids_placed nodes next n r (region args ops rest) s =
    placed_append nodes (heads ops) (kids rest) (heads_placed nodes next (home_of nodes n r) ops s.0)
    (kids_placed nodes next n (suc r) rest s.1)

-- two names in one slot are one
pub one_name : (n m : OpName) (y : Option Node) → holds n y ≡ true → holds m y ≡ true → n.0 ≡ m.0
one_name n m None a b = cc
one_name n m (Some y) a b = sym (eqb-true y.name.0 n.0 a) ∙ eqb-true y.name.0 m.0 b

pub apart_places : (nodes : Nodes) (n m : OpName) → Placed nodes n → Placed nodes m → (n.0 ≡ m.0 → ⊥)
    → item_of nodes n ≡ item_of nodes m → ⊥
apart_places nodes n m a b d e =
    let q : place n nodes ≡ place m nodes = omega arith in
    let b2 : holds m (node_at nodes (place n nodes)) ≡ true = rw q b in
    d (one_name n m _ a b2)

pub place_kept : (nodes : Nodes) (n : OpName) (s : ℕ) (y : Option Node) → holds n (node_at nodes s) ≡ false
    → holds n y ≡ false → place n (slice_set nodes s y) ≡ place n nodes
place_kept [] n s y a b = refl
place_kept (x ∷ xs) n zero y a b = rw (a, b) refl
place_kept (x ∷ xs) n (suc s) y a b = rw (place_kept xs n s y a b) refl

pub place_within : (nodes : Nodes) (n : OpName) → Placed nodes n → place n nodes < length nodes
place_within [] n h = cc
place_within (x ∷ xs) n h =
    elim (cases_Bool (holds n x)) [
      | inl e ↦ rw e (omega arith)
      | inr e ↦ rw e (let h2 : Placed xs n = rw e at h in omega (arith, place_within xs n h2))
    ]
