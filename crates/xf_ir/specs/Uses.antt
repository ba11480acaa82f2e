-- The operands of trees, and how often a value is among them.
use Rattle.std.specs.Prelude.{ℕ, ◌+◌, List, [], ◌∷◌, ◌++◌, Bool, false, ◌==◌, ◌&&◌, if◌then◌else◌}
use Rattle.xf_ir.specs.declared.name.ValueName.{ValueName}
use Rattle.xf_ir.specs.declared.name.ValueName.TheVariants.{Result, Arg, Free}
use Rattle.xf_ir.specs.Lists.{same_name}
use Rattle.xf_ir.specs.Tree.{Ops, no_ops, op, Regions, no_regions, region, Tree}

-- the operands of all operations, in preorder
abbrev mutual
  pub ops_operands : Ops → List ValueName
  ops_operands no_ops = []
  ops_operands (op n k ds os ts rs rest) = os ++ (regions_operands rs ++ ops_operands rest)

  pub regions_operands : Regions → List ValueName
  regions_operands no_regions = []
  regions_operands (region args ops rest) = ops_operands ops ++ regions_operands rest

abbrev pub tree_operands : Tree → List ValueName
tree_operands t = t.operands ++ regions_operands t.regions

abbrev pub same_value : ValueName → ValueName → Bool
same_value (Result o num) (Result o' num') = same_name o o' && (num == num')
same_value (Arg o r num) (Arg o' r' num') = same_name o o' && ((r == r') && (num == num'))
same_value (Free num) (Free num') = num == num'
same_value _ _ = false

-- how often a value is among values
abbrev pub use_count : ValueName → List ValueName → ℕ
use_count v [] = 0
use_count v (w ∷ ws) = if same_value w v then use_count v ws + 1 else use_count v ws
