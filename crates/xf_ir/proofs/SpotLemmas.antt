-- Operations and their spots.
use Rattle.std.proofs.Common.{◌≡◌, ℕ, ◌+◌, Option, Some, None, eqb, inl, inr, refl, ◌∙◌}
use Rattle.std.proofs.lemmas.Bool.{cases_Bool}
use Rattle.xf_ir.specs.declared.name.OpName.{OpName}
use Rattle.xf_ir.specs.declared.spot.Spot.{Spot}
use Rattle.xf_ir.specs.declared.spot.Located.{Located}
use Rattle.xf_ir.specs.Tree.{Ops, no_ops, op, Regions, no_regions, region, Tree}
use Rattle.xf_ir.specs.Walk.{first_of, ops_find, regions_find}
use Rattle.xf_ir.specs.Spots.{ops_locate, regions_locate, spot_at, tree_at_spot}

-- ---- an operation and its spot

pub spot_none : (o : Option Located) → spot_at o ≡ None → o ≡ None
spot_none None h = refl
spot_none (Some x) h = absurd (cc)

pub tree_of_first : (a b : Option Located) → tree_at_spot (first_of a b) ≡ first_of (tree_at_spot a) (tree_at_spot b)
tree_of_first None b = refl
tree_of_first (Some x) b = refl

mutual
  located_ops : (name p : OpName) (r i : ℕ) (ops : Ops) → tree_at_spot (ops_locate name p r i ops) ≡ ops_find name ops
  located_ops name p r i no_ops = refl
  located_ops name p r i (op n k ds os ts rs rest) =
      let b = located_ops name p r (i + 1) rest in
      elim (cases_Bool (eqb n.0 name.0)) [
        | inl e ↦ rw e refl
        | inr e ↦ (let a = located_tree name n 0 rs in
            rw e (tree_of_first (regions_locate name n 0 rs) (ops_locate name p r (i + 1) rest) ∙ rw (a, b) refl))
      ]

  -- the operation that is found with its spot is the one that is found
  pub located_tree : (name p : OpName) (r : ℕ) (rs : Regions)
      → tree_at_spot (regions_locate name p r rs) ≡ regions_find name rs
  located_tree name p r no_regions = refl
  located_tree name p r (region args ops rest) =
      let a = located_ops name p r 0 ops in
      let b = located_tree name p (r + 1) rest in
      tree_of_first (ops_locate name p r 0 ops) (regions_locate name p (r + 1) rest) ∙ rw (a, b) refl

-- what a spot and an operation that were looked for apart make together
pub both_found : (o : Option Located) (s : Spot) (t : Tree) → spot_at o ≡ Some s → tree_at_spot o ≡ Some t
    → (let x : Located = record { spot = s; tree = t } in Some x) ≡ o
both_found None s t h k = absurd (cc)
both_found (Some x) s t h k = (let a : x.spot ≡ s = cc in let b : x.tree ≡ t = cc in rw (← a, ← b) refl)

pub no_tree : (o : Option Located) → tree_at_spot o ≡ None → o ≡ None
no_tree None h = refl
no_tree (Some x) h = absurd (cc)
