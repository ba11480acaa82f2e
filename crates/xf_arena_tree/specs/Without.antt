use Rattle.std.specs.Prelude.{◌≡◌, true, [], Bool, not, ◌==◌, if◌then◌else◌}
use Rattle.xf_ir.specs.declared.name.OpName.{OpName}
use Rattle.xf_arena_tree.specs.Names.{kids}
use Rattle.xf_ir.specs.Tree.{Ops, no_ops, op, Regions, no_regions, region, Tree}

abbrev pub is_not : OpName → OpName → Bool
is_not o n = not (n.0 == o.0)

-- without the operation of a name
abbrev mutual
  pub ops_without : OpName → Ops → Ops
  ops_without name no_ops = no_ops
  ops_without name (op n k ds os ts rs rest) =
      if n.0 == name.0 then ops_without name rest else op n k ds os ts (regions_without name rs) (ops_without name rest)

  pub regions_without : OpName → Regions → Regions
  regions_without name no_regions = no_regions
  regions_without name (region args ops rest) = region args (ops_without name ops) (regions_without name rest)

abbrev pub tree_without : OpName → Tree → Tree
tree_without name t = record t { regions = regions_without name t.regions }

-- the operation of that name holds no others
abbrev mutual
  pub OpsLeaf : OpName → Ops → Type 0
  OpsLeaf o no_ops = Unit {0}
  OpsLeaf o (op n k ds os ts rs rest) = ((n.0 == o.0) ≡ true → kids rs ≡ []) × (RegionsLeaf o rs × OpsLeaf o rest)

  pub RegionsLeaf : OpName → Regions → Type 0
  RegionsLeaf o no_regions = Unit {0}
  RegionsLeaf o (region args ops rest) = OpsLeaf o ops × RegionsLeaf o rest

-- what holds of the regions of the operation of that name
abbrev mutual
  pub OpsWhere : OpName → (Regions → Type 0) → Ops → Type 0
  OpsWhere o Q no_ops = Unit {0}
  OpsWhere o Q (op n k ds os ts rs rest) = ((n.0 == o.0) ≡ true → Q rs) × (RegionsWhere o Q rs × OpsWhere o Q rest)

  pub RegionsWhere : OpName → (Regions → Type 0) → Regions → Type 0
  RegionsWhere o Q no_regions = Unit {0}
  RegionsWhere o Q (region args ops rest) = OpsWhere o Q ops × RegionsWhere o Q rest
