-- What the printed names of values say, where the numbers of each operation are known.
use Rattle.std.specs.Prelude.{ℕ, suc, ◌+◌, ◌^◌, ◌<◌, List, [], ◌∷◌, ◌++◌, length, Option, Some, None, codes}
use Rattle.std.specs.Fmt.{decimal}
use Rattle.xf_type.specs.declared.payload_type.PayloadType.{PayloadType}
use Rattle.xf_format.specs.Parts.{UseSaid, DefineSaid}
use Rattle.xf_ir.specs.declared.name.ValueName.{ValueName}
use Rattle.xf_ir.specs.declared.name.ValueName.TheVariants.{Result, Arg, Free}
use Rattle.xf_ir.specs.Tree.{Ops, no_ops, op}
use Rattle.xf_printed.specs.Names.{DefinedValues, Names, argument_text, no_names, with_ops}

-- `%4`
abbrev pub number_name : ℕ → List ℕ
number_name k = codes "%" ++ decimal k

-- which of several results
abbrev pub part_said : List PayloadType → ℕ → Option ℕ
part_said (t ∷ (u ∷ ts)) num = Some num
part_said ts num = None

abbrev pub result_use : DefinedValues → ℕ → UseSaid
result_use e num = record { name = number_name e.number; number = part_said e.results num }

abbrev pub argument_use : DefinedValues → ℕ → UseSaid
argument_use e num = record { name = argument_text (e.first + num); number = None }

abbrev pub use_or : (DefinedValues → UseSaid) → Option DefinedValues → UseSaid
use_or say None = record { name = []; number = None }
use_or say (Some e) = say e

-- `%4`, `%4#1`, `%arg2`
abbrev pub use_printed : Names → ValueName → UseSaid
use_printed names (Result o num) = use_or (λ e. result_use e num) (names.entry o.0)
use_printed names (Arg o r num) = use_or (λ e. argument_use e num) (names.entry o.0)
use_printed names (Free num) = record { name = []; number = None }

-- `%4 =`, `%4:2 =`, or nothing for no results
abbrev pub defines_printed : ℕ → List PayloadType → List DefineSaid
defines_printed k [] = []
defines_printed k (t ∷ ts) = (record { name = number_name k; count = length (t ∷ ts) }) ∷ []

-- `%arg0`, `%arg1`, from number a on
abbrev pub arguments_printed : ℕ → List PayloadType → List (List ℕ)
arguments_printed a [] = []
arguments_printed a (t ∷ ts) = argument_text a ∷ arguments_printed (suc a) ts

-- the numbers of each function's values are numbers: fewer than 2 ^ 64 of results, and of block arguments
abbrev pub FunctionsNumber : Ops → Type 0
FunctionsNumber no_ops = Unit {0}
FunctionsNumber (op n k ds os ts rs rest) =
    ((with_ops no_names (op n k ds os ts rs no_ops)).number < 2 ^ 64)
    × (((with_ops no_names (op n k ds os ts rs no_ops)).argument < 2 ^ 64) × FunctionsNumber rest)
