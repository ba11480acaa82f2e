-- How much a payload may have: the regions that are open at a place, and the operations.
use Rattle.std.specs.Prelude.{ℕ, ◌+◌, ◌<◌, ◌≤◌}
pub use Rattle.xf_type.specs.Limits.{most_open, most_operations}
use Rattle.xf_ir.specs.declared.op.Module.{Module}
use Rattle.xf_ir.specs.Count.{tree_count}
use Rattle.xf_ir.specs.Tree.{Ops, no_ops, op, Regions, no_regions, region}

-- inside so many open regions, no more than the limit are open anywhere
abbrev mutual
  pub OpsNest : ℕ → Ops → Type 0
  OpsNest depth no_ops = Unit {0}
  OpsNest depth (op n k ds os ts rs rest) = RegionsNest depth rs × OpsNest depth rest

  pub RegionsNest : ℕ → Regions → Type 0
  RegionsNest depth no_regions = Unit {0}
  RegionsNest depth (region args ops rest) = (depth < most_open) × (OpsNest (depth + 1) ops × RegionsNest depth rest)

-- a module is within the limits
pub record IsWithinLimits (m : Module) : Type 0 where
  pub nesting : RegionsNest 0 m.root.regions
  pub number : tree_count m.root ≤ most_operations
