-- Copies: operations of the same kinds and types under other names, over other values.
use Rattle.std.specs.Prelude.{◌≡◌, ℕ, suc, length, map, Some}
use Rattle.xf_ir.specs.declared.name.OpName.{OpName}
use Rattle.xf_ir.specs.declared.name.ValueName.{ValueName}
use Rattle.xf_ir.specs.declared.op.Module.{Module}
use Rattle.xf_ir.specs.Tree.{Ops, no_ops, op, Regions, no_regions, region}
use Rattle.xf_ir.specs.Places.{Numbering, results_of, args_of, FunctionsScoped}
use Rattle.xf_ir.specs.Valid.{functions_of}
use Rattle.xf_sem.specs.Keeps.{KeepsMeaning}

-- s leads from what one place defines to what the other does
abbrev pub Follows : (ValueName → ValueName) → Numbering → Numbering → Type 0
Follows s p p' = (v : ValueName) (i : ℕ) → p v ≡ Some i → p' (s v) ≡ Some i

abbrev mutual
  pub OpsCopy : (ValueName → ValueName) → Ops → Ops → Type 0
  OpsCopy s no_ops no_ops = Unit {0}
  OpsCopy s no_ops (op n' k' ds' os' ts' rs' rest') = ⊥
  OpsCopy s (op n k ds os ts rs rest) no_ops = ⊥
  OpsCopy s (op n k ds os ts rs rest) (op n' k' ds' os' ts' rs' rest') =
      ((k ≡ k') × (ts ≡ ts')) × ((map s os ≡ os') × (Follows s (results_of n (length ts)) (results_of n' (length ts'))
      × (RegionsCopy s n n' 0 rs rs' × OpsCopy s rest rest')))

  pub RegionsCopy : (ValueName → ValueName) → OpName → OpName → ℕ → Regions → Regions → Type 0
  RegionsCopy s n n' i no_regions no_regions = Unit {0}
  RegionsCopy s n n' i no_regions (region args' ops' rest') = ⊥
  RegionsCopy s n n' i (region args ops rest) no_regions = ⊥
  RegionsCopy s n n' i (region args ops rest) (region args' ops' rest') =
      (args ≡ args') × (Follows s (args_of n i (length args)) (args_of n' i (length args'))
      × (OpsCopy s ops ops' × RegionsCopy s n n' (suc i) rest rest'))

abbrev pub FunctionsCopy : (ValueName → ValueName) → Ops → Ops → Type 0
FunctionsCopy s no_ops no_ops = Unit {0}
FunctionsCopy s no_ops (op n' k' ds' os' ts' rs' rest') = ⊥
FunctionsCopy s (op n k ds os ts rs rest) no_ops = ⊥
FunctionsCopy s (op n k ds os ts rs rest) (op n' k' ds' os' ts' rs' rest') =
    (k ≡ k') × (RegionsCopy s n n' 0 rs rs' × FunctionsCopy s rest rest')

-- a copy keeps the meaning, whatever its operations and values are named, and whatever attributes it has
abbrev pub CopyingKeeps : Type 0
CopyingKeeps = (m m' : Module) (s : ValueName → ValueName) → FunctionsScoped (functions_of m)
    → FunctionsScoped (functions_of m') → FunctionsCopy s (functions_of m) (functions_of m')
    → KeepsMeaning m m'
