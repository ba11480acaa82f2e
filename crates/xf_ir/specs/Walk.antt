-- Walks over a tree.
use Rattle.std.specs.Prelude.{List, [], ◌∷◌, ◌++◌, Option, Some, None, ◌==◌, if◌then◌else◌}
use Rattle.xf_ir.specs.declared.name.OpName.{OpName}
use Rattle.xf_ir.specs.Tree.{Ops, no_ops, op, Regions, no_regions, region, Tree}

-- the names in preorder: an operation before what it holds
abbrev mutual
  pub ops_names : Ops → List OpName
  ops_names no_ops = []
  ops_names (op n k ds os ts rs rest) = n ∷ (regions_names rs ++ ops_names rest)

  pub regions_names : Regions → List OpName
  regions_names no_regions = []
  regions_names (region args ops rest) = ops_names ops ++ regions_names rest

abbrev pub tree_names : Tree → List OpName
tree_names t = t.name ∷ regions_names t.regions

-- the names in post-order: an operation after what it holds
abbrev mutual
  pub ops_post : Ops → List OpName
  ops_post no_ops = []
  ops_post (op n k ds os ts rs rest) = regions_post rs ++ n ∷ ops_post rest

  pub regions_post : Regions → List OpName
  regions_post no_regions = []
  regions_post (region args ops rest) = ops_post ops ++ regions_post rest

abbrev pub tree_post : Tree → List OpName
tree_post t = regions_post t.regions ++ t.name ∷ []

abbrev pub first_of : {A : Type 0} → Option A → Option A → Option A
first_of None b = b
first_of (Some x) b = Some x

-- the first operation of a name, in preorder
abbrev mutual
  pub ops_find : OpName → Ops → Option Tree
  ops_find name no_ops = None
  ops_find name (op n k ds os ts rs rest) =
      first_of
      (if n.0 == name.0
      then Some (record { name = n; kind = k; attrs = ds; operands = os; results = ts; regions = rs })
      else regions_find name rs)
      (ops_find name rest)

  pub regions_find : OpName → Regions → Option Tree
  regions_find name no_regions = None
  regions_find name (region args ops rest) = first_of (ops_find name ops) (regions_find name rest)

abbrev pub tree_find : OpName → Tree → Option Tree
tree_find name t = if t.name.0 == name.0 then Some t else regions_find name t.regions
