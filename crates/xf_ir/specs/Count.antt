-- How many operations there are.
use Rattle.std.specs.Prelude.{ℕ, ◌+◌}
use Rattle.xf_ir.specs.Tree.{Ops, no_ops, op, Regions, no_regions, region, Tree}

abbrev mutual
  pub ops_count : Ops → ℕ
  ops_count no_ops = 0
  ops_count (op n k ds os ts rs rest) = 1 + regions_count rs + ops_count rest

  pub regions_count : Regions → ℕ
  regions_count no_regions = 0
  regions_count (region args ops rest) = ops_count ops + regions_count rest

-- the operations of a tree, its own root counted
abbrev pub tree_count : Tree → ℕ
tree_count t = 1 + regions_count t.regions
