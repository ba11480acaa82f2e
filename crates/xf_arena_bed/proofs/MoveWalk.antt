-- Where the walk to a place stops that passes over an operation.
use Rattle.std.proofs.Common.{◌≡◌, ℕ, suc, ◌+◌, ◌<◌, List, [], ◌∷◌, sym, ◌∙◌, ap, refl, eqb, true, false, arith}
use Rattle.std.proofs.Common.{inl, inr}
use Rattle.std.specs.Prelude.{Option, Some, None, nat_lt}
use Rattle.std.proofs.lemmas.Bool.{eq-eqb, ne_eqb, eqb-true, lt-ltb, le-ltb, cases_Bool}
use Rattle.xf_ir.specs.declared.name.OpName.{OpName}
use Rattle.xf_ir.specs.declared.spot.Spot.{Spot}
use Rattle.xf_ir.specs.Edits.{tree_erased, tree_moved, moved}
use Rattle.xf_ir.specs.Spots as spots
use Rattle.xf_ir.specs.Spots.{IsSpot}
use Rattle.xf_ir.specs.Tree.{Ops, no_ops, op, Regions, no_regions, region, Tree, cons}
use Rattle.xf_ir.specs.Walk.{tree_find, ops_find, regions_find}
use Rattle.xf_arena_tree.specs.Names.{ops_has, regions_has, OpsDistinct}
use Rattle.xf_arena_tree.specs.Without.{OpsWhere, RegionsWhere, ops_without, regions_without, tree_without}
use Rattle.xf_arena_tree.specs.Puts.{tree_put, InRange, StandsAt, kids_before}
use Rattle.xf_arena_tree.specs.Kids.{Inner, block_inner, inner_of, before_place, last_or}
use Rattle.xf_arena_tree.proofs.KidsLemmas.{before_is, last_or_is}
use Rattle.xf_arena_tree.proofs.WithoutLemmas.{ops_subset, parts3}
use Rattle.xf_arena_tree.proofs.WhereLemmas.{where_found}
use Rattle.xf_arena_tree.proofs.FillLemmas.{regions_where_absent}
use Rattle.xf_arena_tree.proofs.BridgeLemmas.{found_where, found_is, erased_is, tree_put_is, spot_range, spot_has}
use Rattle.xf_arena_bed.specs.declared.bed.Bed.TheInside.{Inside}
use Rattle.xf_arena_bed.specs.declared.node.OpId.{OpId}
use Rattle.xf_arena_bed.specs.declared.kid.Kid.{Kid}
use Rattle.xf_arena_bed.specs.Kids.{inner_kids}
use Rattle.xf_arena_bed.specs.Live.{name_of, names_of, IsLive}
use Rattle.xf_arena_bed.specs.Sits.{Holds}
use Rattle.xf_arena_bed.specs.Value.{Layout}
use Rattle.xf_arena_bed.specs.View.{layout_of, IsBed}
use Rattle.xf_arena_bed.specs.Moves.{inner_without}
use Rattle.xf_arena_bed.proofs.FindLemmas.{ops_found}
use Rattle.xf_arena_bed.proofs.SpotLemmas.{stands}
use Rattle.xf_arena_bed.proofs.MoveTreeLemmas.{taken_out}

-- ---- the walk

pub beside_end : (r i : ℕ) (o : OpName) (ks : List Kid) → ks ≡ []
    → before_place r i (inner_without o (inner_kids ks)) ≡ []
beside_end r i o ks e = rw e refl

pub beside_past : (r i : ℕ) (o : OpName) (ks : List Kid) (k : Kid) (rest : List Kid) → ks ≡ k ∷ rest
    → (k.id.serial ≡ o.0 → ⊥) → r < k.region → before_place r i (inner_without o (inner_kids ks)) ≡ []
beside_past r i o ks k rest e n h =
    let a = lt-ltb r k.region h in
    let b = ne_eqb k.id.serial o.0 n in
    rw (e, b, a) refl

pub beside_here : (r i : ℕ) (o : OpName) (ks : List Kid) (k : Kid) (rest : List Kid) → ks ≡ k ∷ rest
    → (k.id.serial ≡ o.0 → ⊥) → k.region ≡ r → i ≡ 0 → before_place r i (inner_without o (inner_kids ks)) ≡ []
beside_here r i o ks k rest e n h z =
    let a : nat_lt r k.region ≡ false = le-ltb r k.region (omega arith) in
    let b = eq-eqb k.region r h in
    let d : eqb i 0 ≡ true = eq-eqb i 0 z in
    let f = ne_eqb k.id.serial o.0 n in
    rw (e, f, a, b, d) refl

block_out : (o : OpName) (r : ℕ) (ops : Ops) (more more2 : List Inner) → more2 ≡ inner_without o more
    → block_inner r (ops_without o ops) more2 ≡ inner_without o (block_inner r ops more)
block_out o r no_ops more more2 e = e
block_out o r (op n k ds os ts rs rest) more more2 e =
    elim (cases_Bool (eqb n.0 o.0)) [
      | inl t ↦ rw t (block_out o r rest more more2 e)
      | inr f ↦ rw f (ap (λ (l : List Inner). record { name = n; region = r } ∷ l) (block_out o r rest more more2 e))
    ]

inner_out : (o : OpName) (r : ℕ) (rs : Regions) → inner_of r (regions_without o rs) ≡ inner_without o (inner_of r rs)
inner_out o r no_regions = refl
inner_out o r (region args ops rest) =
    block_out o r ops (inner_of (suc r) rest) (inner_of (suc r) (regions_without o rest)) (inner_out o (suc r) rest)

pub beside_place : (p : OpName) (r i left : ℕ) (o : OpName) (root : Tree) (kids init now : List Kid)
    (before : Option OpId) → OpsDistinct (cons root no_ops) → (t : Tree) × (tree_find p root ≡ Some t)
    → ((t : Tree) → tree_find p root ≡ Some t → inner_kids kids ≡ inner_of 0 t.regions)
    → OpsWhere p (λ rs. InRange r i (regions_without o rs)) (cons root no_ops) → init ≡ kids
    → last_or (names_of before) (before_place r left (inner_without o (inner_kids now)))
    ≡ last_or None (before_place r i (inner_without o (inner_kids init)))
    → before_place r left (inner_without o (inner_kids now)) ≡ []
    → OpsWhere p (λ rs. StandsAt r i (names_of before) (regions_without o rs)) (cons root no_ops)
beside_place p r i left o root kids init now before d f all w e told stop =
    let t = f.0 in
    let rs = regions_without o t.regions in
    let found = found_is p root ∙ f.1 in
    let range : InRange r i rs =
    where_found p (λ rs. InRange r i (regions_without o rs)) (cons root no_ops) t w found
    in
    let z : 0 + r ≡ r = omega arith in
    let b : before_place r i (inner_of 0 rs) ≡ kids_before r i rs =
    ap (λ q. before_place q i (inner_of 0 rs)) (sym z) ∙ before_is r i 0 rs range
    in
    let ks : inner_without o (inner_kids init) ≡ inner_of 0 rs =
    ap (λ (l : List Kid). inner_without o (inner_kids l)) e ∙ ap (inner_without o) (all t f.1)
    ∙ sym (inner_out o 0 t.regions)
    in
    let s : names_of before ≡ last_or None (before_place r i (inner_of 0 rs)) =
    sym (ap (last_or (names_of before)) stop) ∙ told ∙ ap (λ l. last_or None (before_place r i l)) ks
    in
    found_where p (λ rs. StandsAt r i (names_of before) (regions_without o rs)) (cons root no_ops) t d found (record {
      in_range = range;
      before = sym (s ∙ ap (last_or None) b ∙ last_or_is (kids_before r i rs));
    })

-- ---- a tree without an operation, and with it

same_op : (n o : OpName) → eqb n.0 o.0 ≡ true → n ≡ o
same_op n o e = let mk : ℕ → OpName = λ x. record { 0 = x } in ap mk (eqb-true n.0 o.0 e)

mutual
  where_out : (p o : OpName) (Q : Regions → Type 0) (ops : Ops)
      → OpsWhere p (λ rs. Q (regions_without o rs)) ops → OpsWhere p Q (ops_without o ops)
  where_out p o Q no_ops w = tt
  where_out p o Q (op n k ds os ts rs rest) w =
      elim (cases_Bool (eqb n.0 o.0)) [
        | inl t ↦ rw t (where_out p o Q rest w.1.1)
        | inr f ↦ rw f (w.0, (regions_where_out p o Q rs w.1.0, where_out p o Q rest w.1.1))
      ]

  regions_where_out : (p o : OpName) (Q : Regions → Type 0) (rs : Regions)
      → RegionsWhere p (λ rs. Q (regions_without o rs)) rs → RegionsWhere p Q (regions_without o rs)
  regions_where_out p o Q no_regions w = tt
  regions_where_out p o Q (region args ops rest) w = (where_out p o Q ops w.0, regions_where_out p o Q rest w.1)

mutual
  where_back : (p o : OpName) (Q : Regions → Type 0) (ops : Ops) → eqb o.0 p.0 ≡ false
      → OpsWhere o (λ rs. regions_has p rs ≡ false) ops → OpsWhere p Q (ops_without o ops)
      → OpsWhere p (λ rs. Q (regions_without o rs)) ops
  where_back p o Q no_ops f h w = tt
  where_back p o Q (op n k ds os ts rs rest) f h w =
      elim (cases_Bool (eqb n.0 o.0)) [
        | inl t ↦ (
            let other : eqb n.0 p.0 ≡ false = rw (same_op n o t) f in
            let v : OpsWhere p Q (ops_without o rest) = rw t at w in (
              (λ e. let z : true ≡ false = sym e ∙ other in absurd (cc)),
              (
                regions_where_absent p (λ rs. Q (regions_without o rs)) rs (h.0 t),
                where_back p o Q rest f h.1.1 v,
              ),
            ))
        | inr g ↦ (
            let v : OpsWhere p Q (op n k ds os ts (regions_without o rs) (ops_without o rest)) = rw g at w in
            (v.0, (regions_where_back p o Q rs f h.1.0 v.1.0, where_back p o Q rest f h.1.1 v.1.1)))
      ]

  regions_where_back : (p o : OpName) (Q : Regions → Type 0) (rs : Regions) → eqb o.0 p.0 ≡ false
      → RegionsWhere o (λ rs. regions_has p rs ≡ false) rs → RegionsWhere p Q (regions_without o rs)
      → RegionsWhere p (λ rs. Q (regions_without o rs)) rs
  regions_where_back p o Q no_regions f h w = tt
  regions_where_back p o Q (region args ops rest) f h w =
      (where_back p o Q ops f h.0 w.0, regions_where_back p o Q rest f h.1 w.1)

-- the sibling stands there once the operation is taken out
pub place_out : (p o : OpName) (r i : ℕ) (sibling : Option OpName) (root : Tree) → eqb root.name.0 o.0 ≡ false
    → OpsWhere p (λ rs. StandsAt r i sibling (regions_without o rs)) (cons root no_ops)
    → OpsWhere p (StandsAt r i sibling) (cons (tree_without o root) no_ops)
place_out p o r i sibling root f w = rw f at (where_out p o (StandsAt r i sibling) (cons root no_ops) w)

-- ---- a spot of what is left

pub record SpotOut (root : Tree) (o : OpName) (to : Spot) : Type 0 where
  pub tree : Tree
  pub found : tree_find o root ≡ Some tree
  pub distinct : OpsDistinct (cons root no_ops)
  pub inside : ops_has to.parent (cons (tree_without o root) no_ops) ≡ true
  pub range : OpsWhere to.parent (λ rs. InRange to.region to.at (regions_without o rs)) (cons root no_ops)
  pub has : ops_has to.parent (cons root no_ops) ≡ true

spot_out : (root : Tree) (o : OpName) (to : Spot) (t : Tree) → OpsDistinct (cons root no_ops)
    → eqb root.name.0 o.0 ≡ false → ops_find o (cons root no_ops) ≡ Some t → t.name ≡ o
    → IsSpot to (tree_erased o root) → SpotOut root o to
spot_out root o to t d f e n w =
    let left = tree_without o root in
    let p = to.parent in
    let out = taken_out o t root d f e in
    let spot : IsSpot to left = rw (erased_is o root d) w in
    let has = spot_has to left spot in
    let range : OpsWhere p (InRange to.region to.at) (ops_without o (cons root no_ops)) =
    rw f (spot_range to left out.rest spot)
    in
    let q = parts3 (eqb t.name.0 p.0) (regions_has p t.regions) false (out.apart p has) in
    let other : eqb o.0 p.0 ≡ false = rw n at q.0 in
    record {
      tree = t;
      found = sym (found_is o root) ∙ e;
      distinct = d;
      inside = has;
      range = where_back p o (InRange to.region to.at) (cons root no_ops) other
          (found_where o (λ rs. regions_has p rs ≡ false) (cons root no_ops) t d e q.1.0) range;
      has = elim (cases_Bool (ops_has p (cons root no_ops))) [
        | inl a ↦ a
        | inr a ↦ (
            let b : ops_has p (cons left no_ops) ≡ false = rw f at (ops_subset p o (cons root no_ops) a) in
            let z : true ≡ false = sym has ∙ b in
            absurd (cc))
      ];
    }

pub spot_of_left : (a : Inside) (v : Layout) (id : OpId) (to : Spot) → IsBed a → layout_of a ≡ v → IsLive v id
    → eqb v.root.name.0 id.serial ≡ false → IsSpot to (tree_erased (name_of id) v.root)
    → SpotOut v.root (name_of id) to
spot_of_left a v id to b e live f w =
    let s = stands a v id b e live in
    let g = ops_found a.nodes.items a.links None (cons v.root no_ops) (name_of id) s.holds.sits s.has in
    spot_out v.root (name_of id) to g.0 s.holds.distinct f g.1.0 g.1.1.name w

-- the parent of the spot has a slot
pub spot_named : (a : Inside) (v : Layout) (o : OpName) (to : Spot) → IsBed a → layout_of a ≡ v → SpotOut v.root o to
    → (t : Tree) × (tree_find to.parent v.root ≡ Some t)
spot_named a v o to b e c =
    let root : (layout_of a).root ≡ v.root = ap (λ (m : Layout). m.root) e in
    let h : Holds a.nodes.items a.links a.root v.root = rw root at b.holds in
    let g = ops_found a.nodes.items a.links None (cons v.root no_ops) to.parent h.sits c.has in
    (g.0, sym (found_is to.parent v.root) ∙ g.1.0)

-- what is made of the tree is what the definitions say
pub move_is : (root : Tree) (o p : OpName) (to : Spot) (t new : Tree) → OpsDistinct (cons root no_ops)
    → eqb root.name.0 o.0 ≡ false → tree_find o root ≡ Some t → p ≡ to.parent
    → new ≡ tree_put p to.region to.at t (tree_without o root) → new ≡ tree_moved o to root
move_is root o p to t new d f e n q =
    let out = taken_out o t root d f (found_is o root ∙ e) in
    let found : regions_find o root.regions ≡ Some t = rw f at e in
    q ∙ ap (λ x. tree_put x to.region to.at t (tree_without o root)) n
    ∙ tree_put_is to t (tree_without o root) out.rest ∙ ap (spots.tree_put to t) (erased_is o root d)
    ∙ ap (λ y. moved o to y root) (sym found)
