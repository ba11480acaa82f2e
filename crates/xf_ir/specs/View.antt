-- How the code's own trees are seen, and how deep they are.
use Rattle.std.specs.Prelude.{ℕ, ◌+◌, ◌≤◌, List, [], ◌∷◌}
use Rattle.std.proofs.Common.{arith}
use denote.Param.Weighed.{most}
use Rattle.xf_ir.specs.Tree.{Ops, no_ops, op, Regions, no_regions, region, Tree, Body, cons}
use Rattle.xf_ir.specs.declared.op.Op.TheInside.{Inside}
use Rattle.xf_ir.specs.declared.op.Block.TheInside.{Inside as BlockInside}

abbrev pub regions_of : List Body → Regions
regions_of [] = no_regions
regions_of (b ∷ bs) = region b.args b.ops (regions_of bs)

abbrev pub ops_of : List Tree → Ops
ops_of [] = no_ops
ops_of (t ∷ ts) = cons t (ops_of ts)

abbrev pub tree_of : Inside → Tree
tree_of a =
    record {
      name = a.name;
      kind = a.kind;
      attrs = a.attrs;
      operands = a.operands;
      results = a.results;
      regions = regions_of a.regions.items;
    }

abbrev pub body_of : BlockInside → Body
body_of b = record { args = b.args; ops = ops_of b.ops.items }

abbrev mutual
  pub ops_size : Ops → ℕ
  ops_size no_ops = 0
  ops_size (op n k ds os ts rs rest) = regions_size rs + ops_size rest + 1

  pub regions_size : Regions → ℕ
  regions_size no_regions = 0
  regions_size (region args ops rest) = ops_size ops + regions_size rest + 1

abbrev pub tree_size : Tree → ℕ
tree_size t = regions_size t.regions

abbrev pub body_size : Body → ℕ
body_size b = ops_size b.ops

pub bodies_fall : (bs : List Body) → most (λ b. body_size b + 1) bs ≤ regions_size (regions_of bs)
bodies_fall [] = omega arith
bodies_fall (b ∷ bs) = omega (arith, bodies_fall bs)

pub trees_fall : (ts : List Tree) → most (λ t. tree_size t + 1) ts ≤ ops_size (ops_of ts)
trees_fall [] = omega arith
trees_fall (t ∷ ts) = omega (arith, trees_fall ts)
