-- Which values a place defines, and where they are visible (MLIR language reference: value scoping).
use Rattle.std.specs.Prelude.{◌≡◌, ℕ, suc, List, [], ◌∷◌, length, Option, Some, None, Bool, true}
use Rattle.std.specs.Prelude.{false, ◌==◌, ◌&&◌, ◌||◌, if◌then◌else◌, nat_lt, is_some}
use Rattle.xf_ir.specs.declared.name.OpName.{OpName}
use Rattle.xf_ir.specs.declared.name.ValueName.{ValueName}
use Rattle.xf_ir.specs.declared.name.ValueName.TheVariants.{Result, Arg, Free}
use Rattle.xf_ir.specs.Tree.{Ops, no_ops, op, Regions, no_regions, region}

-- the number of a value among those that one place defines
abbrev pub Numbering : Type 0
Numbering = ValueName → Option ℕ

abbrev pub below : ℕ → ℕ → Option ℕ
below num count = if nat_lt num count then Some num else None

-- the results of an operation
abbrev pub results_of : OpName → ℕ → Numbering
results_of n count (Result o num) = if o.0 == n.0 then below num count else None
results_of n count (Arg o r num) = None
results_of n count (Free num) = None

-- the arguments of the block of a region
abbrev pub args_of : OpName → ℕ → ℕ → Numbering
args_of n i count (Result o num) = None
args_of n i count (Arg o r num) = if (o.0 == n.0) && (r == i) then below num count else None
args_of n i count (Free num) = None

-- what is visible at a place: operations that stand before it in its block or in an enclosing one, and the arguments of
-- enclosing blocks
pub data Seen : Type 0 where
  done : (name : OpName) (count : ℕ) → Seen
  inside : (name : OpName) (region count : ℕ) → Seen

abbrev pub numbering_of : Seen → Numbering
numbering_of (done n count) = results_of n count
numbering_of (inside n i count) = args_of n i count

-- whether a value is visible
abbrev pub sees : List Seen → ValueName → Bool
sees [] v = false
sees (s ∷ ss) v = is_some (numbering_of s v) || sees ss v

-- each of these values is visible
abbrev pub AllSeen : List Seen → List ValueName → Type 0
AllSeen ss [] = Unit {0}
AllSeen ss (v ∷ vs) = (sees ss v ≡ true) × AllSeen ss vs

-- no visible value is defined here again
pub record IsFresh (ss : List Seen) (p : Numbering) : Type 0 where
  pub apart : (v : ValueName) → sees ss v ≡ true → p v ≡ None

-- each operand is visible where it stands, and each value is defined once among those that are visible
abbrev mutual
  pub OpsScoped : List Seen → Ops → Type 0
  OpsScoped ss no_ops = Unit {0}
  OpsScoped ss (op n k ds os ts rs rest) =
      AllSeen ss os
      × (IsFresh ss (results_of n (length ts)) × (RegionsScoped ss n 0 rs × OpsScoped (done n (length ts) ∷ ss) rest))

  pub RegionsScoped : List Seen → OpName → ℕ → Regions → Type 0
  RegionsScoped ss n i no_regions = Unit {0}
  RegionsScoped ss n i (region args ops rest) =
      IsFresh ss (args_of n i (length args))
      × (OpsScoped (inside n i (length args) ∷ ss) ops × RegionsScoped ss n (suc i) rest)

-- each function sees its own values alone
abbrev pub FunctionsScoped : Ops → Type 0
FunctionsScoped no_ops = Unit {0}
FunctionsScoped (op n k ds os ts rs rest) = RegionsScoped [] n 0 rs × FunctionsScoped rest
