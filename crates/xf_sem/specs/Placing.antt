-- Values stay visible where an operation is replaced.
use Rattle.std.specs.Prelude.{◌≡◌, ℕ, List, [], ◌∷◌, length, false}
use Rattle.xf_ir.specs.declared.name.OpName.{OpName}
use Rattle.xf_ir.specs.declared.name.ValueName.{ValueName}
use Rattle.xf_ir.specs.declared.op.Module.{Module}
use Rattle.xf_ir.specs.Tree.{Ops, no_ops, op}
use Rattle.xf_ir.specs.Walk.{ops_names}
use Rattle.xf_ir.specs.Lists.{is_among, Each}
use Rattle.xf_ir.specs.Places.{AllSeen, OpsScoped, FunctionsScoped}
use Rattle.xf_ir.specs.Valid.{functions_of}
use Rattle.xf_ir.specs.Replaced.{replaced_by}
use Rattle.xf_sem.specs.Surroundings.{Context, visible, NoFunction, FunctionsWhere, MayChange}
use Rattle.xf_sem.specs.Replacing.{visible_after}

-- the names of the operations of a block, without what they hold
abbrev pub outer_names : Ops → List OpName
outer_names no_ops = []
outer_names (op n k ds os ts rs rest) = n ∷ outer_names rest

-- new operations see what they use, there is a value for each result and it is visible behind them, and what stands
-- behind has other names
pub record FitsPlace (new : Ops) (by : List ValueName) (s : Context) (count : ℕ) (rest : Ops) : Type 0 where
  pub scoped : OpsScoped (visible s) new
  pub seen : AllSeen (visible_after new (visible s)) by
  pub many : length by ≡ count
  pub apart : Each (λ n. is_among n (ops_names rest) ≡ false) (outer_names new)

abbrev pub FitsHere : Ops → List ValueName → Context → Ops → Type 0
FitsHere new by s no_ops = Unit {0}
FitsHere new by s (op n k ds os ts rs rest) = FitsPlace new by s (length ts) rest

-- an operation inside a function may be replaced by what fits its place: each operand stays visible, and each value
-- defined once among those that are visible
abbrev pub ReplacementMay : Type 0
ReplacementMay = (m : Module) (name : OpName) (new : Ops) (by : List ValueName) → NoFunction name (functions_of m)
    → FunctionsScoped (functions_of m) → FunctionsWhere name (FitsHere new by) (functions_of m)
    → MayChange m name (replaced_by new by)
