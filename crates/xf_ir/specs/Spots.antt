-- Where operations stand, and trees put there.
use Rattle.std.specs.Prelude.{◌≡◌, ℕ, zero, suc, ◌+◌, ◌≤◌, Option, Some, None, ◌==◌, if◌then◌else◌}
use Rattle.xf_ir.specs.declared.name.OpName.{OpName}
use Rattle.xf_ir.specs.declared.spot.Spot.{Spot}
use Rattle.xf_ir.specs.declared.spot.Located.{Located}
use Rattle.xf_ir.specs.Tree.{Ops, no_ops, op, Regions, no_regions, region, Tree, Body, cons}
use Rattle.xf_ir.specs.Walk.{first_of, tree_find}

-- the first operation of a name, with its spot, in a block from its operation i on
abbrev mutual
  pub ops_locate : OpName → OpName → ℕ → ℕ → Ops → Option Located
  ops_locate name p r i no_ops = None
  ops_locate name p r i (op n k ds os ts rs rest) =
      first_of
      (if n.0 == name.0
      then Some (record {
        spot = record { parent = p; region = r; at = i };
        tree = record { name = n; kind = k; attrs = ds; operands = os; results = ts; regions = rs };
      })
      else regions_locate name n 0 rs)
      (ops_locate name p r (i + 1) rest)

  pub regions_locate : OpName → OpName → ℕ → Regions → Option Located
  regions_locate name p r no_regions = None
  regions_locate name p r (region args ops rest) =
      first_of (ops_locate name p r 0 ops) (regions_locate name p (r + 1) rest)

-- the first operation of a name that a tree holds, with its spot
abbrev pub tree_locate : OpName → Tree → Option Located
tree_locate name t = regions_locate name t.name 0 t.regions

abbrev pub spot_at : Option Located → Option Spot
spot_at None = None
spot_at (Some x) = Some x.spot

abbrev pub tree_at_spot : Option Located → Option Tree
tree_at_spot None = None
tree_at_spot (Some x) = Some x.tree

-- the first spot, or another where there is none
abbrev pub spot_or : Spot → Option Spot → Spot
spot_or other None = other
spot_or other (Some s) = s

-- with a tree before operation i of a block
abbrev pub ops_insert : ℕ → Tree → Ops → Ops
ops_insert zero t ops = cons t ops
ops_insert (suc i) t no_ops = no_ops
ops_insert (suc i) t (op n k ds os ts rs rest) = op n k ds os ts rs (ops_insert i t rest)

-- with a tree before operation i of region r
abbrev pub regions_insert : ℕ → ℕ → Tree → Regions → Regions
regions_insert r i t no_regions = no_regions
regions_insert zero i t (region args ops rest) = region args (ops_insert i t ops) rest
regions_insert (suc r) i t (region args ops rest) = region args ops (regions_insert r i t rest)

-- with a tree at a spot
abbrev mutual
  pub ops_put : Spot → Tree → Ops → Ops
  ops_put s t no_ops = no_ops
  ops_put s t (op n k ds os ts rs rest) =
      op n k ds os ts
      (if n.0 == s.parent.0 then regions_insert s.region s.at t rs else regions_put s t rs)
      (ops_put s t rest)

  pub regions_put : Spot → Tree → Regions → Regions
  regions_put s t no_regions = no_regions
  regions_put s t (region args ops rest) = region args (ops_put s t ops) (regions_put s t rest)

abbrev pub tree_put : Spot → Tree → Tree → Tree
tree_put s t root =
    record root {
      regions =
          if root.name.0 == s.parent.0 then regions_insert s.region s.at t root.regions
          else regions_put s t root.regions;
    }

abbrev pub body_put : Spot → Tree → Body → Body
body_put s t b = record b { ops = ops_put s t b.ops }

abbrev pub ops_length : Ops → ℕ
ops_length no_ops = 0
ops_length (op n k ds os ts rs rest) = ops_length rest + 1

-- the operations of region r
abbrev pub regions_get : ℕ → Regions → Option Ops
regions_get r no_regions = None
regions_get zero (region args ops rest) = Some ops
regions_get (suc r) (region args ops rest) = regions_get r rest

-- a spot of a tree: the parent is there, it has the region, and the block has as many operations
pub record IsSpot (s : Spot) (root : Tree) : Type 0 where
  pub parent : Tree
  pub found : tree_find s.parent root ≡ Some parent
  pub block : Ops
  pub has : regions_get s.region parent.regions ≡ Some block
  pub within : s.at ≤ ops_length block
