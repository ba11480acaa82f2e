-- The names of a function's values, and their types.
use Rattle.std.specs.Prelude.{ℕ, suc, ◌+◌, List, [], ◌∷◌, ◌++◌, length, codes, Option, Some, None}
use Rattle.std.specs.Prelude.{slice_get, ◌==◌, if◌then◌else◌, option_and_then}
use Rattle.std.specs.Fmt.{decimal}
use Rattle.xf_type.specs.declared.payload_type.PayloadType.{PayloadType}
use Rattle.xf_ir.specs.declared.name.OpName.{OpName}
use Rattle.xf_ir.specs.declared.name.ValueName.{ValueName}
use Rattle.xf_ir.specs.declared.name.ValueName.TheVariants.{Result, Arg, Free}
use Rattle.xf_ir.specs.Tree.{Ops, no_ops, op, Regions, no_regions, region}
pub use Rattle.xf_ir.specs.Calls.{first_args}

-- what an operation defines: results, which have one number, and the arguments of its first block, which have numbers
-- of their own from `first` on
pub record DefinedValues : Type 0 where
  pub number : ℕ
  pub results : List PayloadType
  pub first : ℕ
  pub args : List PayloadType

-- what operations define, by their names, and the next numbers
pub record Names : Type 0 where
  pub entry : ℕ → Option DefinedValues
  pub number : ℕ
  pub argument : ℕ

-- ---- numbers, in preorder

-- one more entry
abbrev pub with_entry : ℕ → DefinedValues → (ℕ → Option DefinedValues) → ℕ → Option DefinedValues
with_entry n e entries m = if m == n then Some e else entries m

-- one number is taken by an operation with results
abbrev pub next_number : ℕ → List PayloadType → ℕ
next_number k [] = k
next_number k (t ∷ ts) = suc k

-- an operation takes the next numbers
abbrev pub with_op : OpName → List PayloadType → List PayloadType → Names → Names
with_op n ts args names = record {
  entry =
      with_entry n.0
      (record { number = names.number; results = ts; first = names.argument; args = args })
      names.entry;
  number = next_number names.number ts;
  argument = names.argument + length args;
}

-- each operation takes its numbers before what it holds
abbrev mutual
  pub with_ops : Names → Ops → Names
  with_ops names no_ops = names
  with_ops names (op n k ds os ts rs rest) = with_ops (with_regions (with_op n ts (first_args rs) names) rs) rest

  pub with_regions : Names → Regions → Names
  with_regions names no_regions = names
  with_regions names (region args ops rest) = with_regions (with_ops names ops) rest

abbrev pub no_names : Names
no_names = record { entry = λ _. None; number = 0; argument = 0 }

-- ---- what is printed for an argument

abbrev pub argument_text : ℕ → List ℕ
argument_text k = codes "%arg" ++ decimal k

-- ---- the types of values

abbrev pub type_of : Names → ValueName → Option PayloadType
type_of names (Result o num) = option_and_then (λ (e : DefinedValues). slice_get e.results num) (names.entry o.0)
type_of names (Arg o r num) = option_and_then (λ (e : DefinedValues). slice_get e.args num) (names.entry o.0)
type_of names (Free num) = None

-- ---- the numbers of an operation

abbrev pub number_of : Option DefinedValues → ℕ
number_of None = 0
number_of (Some e) = e.number

abbrev pub first_of : Option DefinedValues → ℕ
first_of None = 0
first_of (Some e) = e.first
