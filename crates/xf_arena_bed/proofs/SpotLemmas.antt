-- The number that a child is linked behind.
use Rattle.std.proofs.Common.{◌≡◌, ℕ, ◌<◌, length, List, [], ◌∷◌, ◌++◌, sym, ◌∙◌, ap, arith, refl}
use Rattle.std.proofs.Common.{true, false, inl, inr}
use Rattle.std.specs.Prelude.{map, Option, Some, None}
use Rattle.xf_ir.specs.declared.name.OpName.{OpName}
use Rattle.xf_ir.specs.Tree.{no_ops, Regions, Tree, cons}
use Rattle.xf_arena_tree.specs.Names.{kids, ops_has}
use Rattle.xf_arena_tree.specs.Without.{OpsWhere}
use Rattle.xf_arena_tree.specs.Puts.{InRange, kids_before, kids_after, last_name, StandsAt}
use Rattle.xf_arena_tree.proofs.WhereLemmas.{where_map, where_found}
use Rattle.xf_arena_bed.specs.declared.bed.Bed.TheInside.{Inside}
use Rattle.xf_arena_bed.specs.declared.node.OpId.{OpId}
use Rattle.xf_arena_bed.specs.Value.{Layout}
use Rattle.xf_arena_bed.specs.Live.{name_of, names_of, IsLive, AreLive, number_before}
use Rattle.xf_arena_bed.specs.Sits.{Nodes, node_at, holds, place, head, item, item_of, Holds}
use Rattle.xf_arena_bed.specs.View.{layout_of, IsBed}
use Rattle.xf_arena_bed.proofs.PlaceLemmas.{Placed, place_within}
use Rattle.xf_arena_bed.proofs.LeafLemmas.{place_is, holder}
use Rattle.xf_arena_bed.proofs.CloseLemmas.{seated}
use Rattle.xf_arena_bed.proofs.FindLemmas.{ops_found}
use Rattle.xf_arena_bed.proofs.PutLemmas.{SplitAt, last, under, AllUnder, kids_under, kids_split}
use Rattle.xf_arena_bed.proofs.PutLemmas.{IsBefore}

-- ---- a live operation, in the fields

-- where a live operation is
pub record Stands (nodes : Nodes) (next : List ℕ) (root : ℕ) (t : Tree) (id : OpId) : Type 0 where
  pub holds : Holds nodes next root t
  pub placed : Placed nodes (name_of id)
  pub place : place (name_of id) nodes ≡ id.slot
  pub has : ops_has (name_of id) (cons t no_ops) ≡ true

pub stands : (a : Inside) (v : Layout) (id : OpId) → IsBed a → layout_of a ≡ v → IsLive v id
    → Stands a.nodes.items a.links a.root v.root id
stands a v id i e live =
    let o = name_of id in
    let root : (layout_of a).root ≡ v.root = ap (λ (m : Layout). m.root) e in
    let h = rw root at i.holds in
    let held = seated a v id.slot o e live in
    let pl = place_is a.nodes.items a.links a.root v.root o id.slot h held in
    let z = holder o (node_at a.nodes.items id.slot) held in
    let nm : z.0.name ≡ o = (let mk : ℕ → OpName = λ j. record { 0 = j } in ap mk z.1.1) in
    record { holds = h; placed = pl.0; place = pl.1; has = rw nm at (h.known id.slot z.0 z.1.0) }

-- ---- the last of the children before a place

none_last : (ns : List OpName) → last_name ns ≡ None → ns ≡ []
none_last [] e = refl
none_last (n ∷ []) e = cc
none_last (n ∷ (m ∷ ns)) e = let q = none_last (m ∷ ns) e in cc

last_named : (nodes : Nodes) (a : ℕ) (ns : List OpName) (k : OpName) → last_name ns ≡ Some k
    → last a (map (item_of nodes) ns) ≡ item_of nodes k
last_named nodes a [] k e = cc
last_named nodes a (n ∷ []) k e = let q : n ≡ k = cc in ap (item_of nodes) q
last_named nodes a (n ∷ (m ∷ ns)) k e = last_named nodes (item_of nodes n) (m ∷ ns) k e

pub last_under : (nodes : Nodes) (p : OpName) (ns : List OpName) (k : OpName) → last_name ns ≡ Some k
    → AllUnder nodes p ns → under p (node_at nodes (place k nodes)) ≡ true
last_under nodes p [] k e a = cc
last_under nodes p (n ∷ []) k e a = let q : n ≡ k = cc in rw q at a.0
last_under nodes p (n ∷ (m ∷ ns)) k e a = last_under nodes p (m ∷ ns) k e a.1

pub under_left : (nodes : Nodes) (p : OpName) (ns ms : List OpName) → AllUnder nodes p (ns ++ ms) → AllUnder nodes p ns
under_left nodes p [] ms a = tt
under_left nodes p (n ∷ ns) ms a = (a.0, under_left nodes p ns ms a.1)

-- the place among the children of p, in the links
pub record Spotted (nodes : Nodes) (t : Tree) (p : OpName) (r i before : ℕ) : Type 0 where
  pub split : OpsWhere p (SplitAt nodes p r i before) (cons t no_ops)
  pub range : OpsWhere p (InRange r i) (cons t no_ops)
  pub spot : IsBefore nodes p before

pub before_head : (nodes : Nodes) (p : OpId) (r i : ℕ) (rs : Regions) → place (name_of p) nodes ≡ p.slot
    → StandsAt r i None rs → SplitAt nodes (name_of p) r i (head p.slot) rs
before_head nodes p r i rs e s = record {
  in_range = s.in_range;
  is = (let z = none_last (kids_before r i rs) s.before in rw (z, e) refl);
}

pub before_item : (nodes : Nodes) (p : OpName) (k : OpId) (r i : ℕ) (rs : Regions) → place (name_of k) nodes ≡ k.slot
    → StandsAt r i (Some (name_of k)) rs → SplitAt nodes p r i (item k.slot) rs
before_item nodes p k r i rs e s = record {
  in_range = s.in_range;
  is = sym (last_named nodes (head (place p nodes)) (kids_before r i rs) (name_of k) s.before ∙ ap item e);
}

pub spotted : (a : Inside) (v : Layout) (p : OpId) (sibling : Option OpId) (r i : ℕ) → IsBed a → layout_of a ≡ v
    → IsLive v p → AreLive v sibling
    → OpsWhere (name_of p) (StandsAt r i (names_of sibling)) (cons v.root no_ops)
    → Spotted a.nodes.items v.root (name_of p) r i (number_before p sibling)
spotted a v p None r i b e lp ls w =
    let s = stands a v p b e lp in
    record {
      split = where_map (name_of p) (StandsAt r i None) (SplitAt a.nodes.items (name_of p) r i (head p.slot))
          (cons v.root no_ops) (λ rs x. before_head a.nodes.items p r i rs s.place x) w;
      range = where_map (name_of p) (StandsAt r i None) (InRange r i) (cons v.root no_ops) (λ rs x. x.in_range) w;
      spot = inl (ap head (sym s.place));
    }
spotted a v p (Some k) r i b e lp ls w =
    let nodes = a.nodes.items in
    let s = stands a v p b e lp in
    let z = stands a v k b e ls in
    let f = ops_found nodes a.links None (cons v.root no_ops) (name_of p) s.holds.sits s.has in
    let q = where_found (name_of p) (StandsAt r i (Some (name_of k))) (cons v.root no_ops) f.0 w f.1.0 in
    let split = kids_split r i f.0.regions q.in_range in
    let all : AllUnder nodes f.0.name (kids f.0.regions) =
    kids_under nodes a.links f.0.name 0 f.0.regions f.1.1.inner in
    let some = under_left nodes f.0.name (kids_before r i f.0.regions) (kids_after r i f.0.regions) (rw split at all) in
    let below = last_under nodes f.0.name (kids_before r i f.0.regions) (name_of k) q.before some in
    record {
      split = where_map (name_of p) (StandsAt r i (Some (name_of k))) (SplitAt nodes (name_of p) r i (item k.slot))
          (cons v.root no_ops) (λ rs x. before_item nodes (name_of p) k r i rs z.place x) w;
      range = where_map (name_of p) (StandsAt r i (Some (name_of k))) (InRange r i) (cons v.root no_ops)
          (λ rs x. x.in_range) w;
      spot = inr (record {
        name = name_of k;
        is = ap item (sym z.place);
        placed = z.placed;
        below = rw f.1.1.name at below;
      });
    }

pub before_within : (nodes : Nodes) (next : List ℕ) (root : ℕ) (t : Tree) (p : OpName) (before : ℕ)
    → Holds nodes next root t → Placed nodes p → IsBefore nodes p before → before < length next
before_within nodes next root t p before h a b = elim b [
  | inl e ↦ omega (arith, place_within nodes p a, h.size)
  | inr k ↦ (let e = k.is in omega (arith, place_within nodes k.name k.placed, h.size))
]

pub before_other : (nodes : Nodes) (p : OpName) (before s : ℕ) → node_at nodes s ≡ None → IsBefore nodes p before
    → before ≡ item s → ⊥
before_other nodes p before s e b q = elim b [
  | inl c ↦ omega arith
  | inr k ↦ (
      let g : s ≡ place k.name nodes = (let c = k.is in omega arith) in
      let c : false ≡ true = sym (ap (holds k.name) (ap (node_at nodes) (sym g) ∙ e)) ∙ k.placed in cc)
]
