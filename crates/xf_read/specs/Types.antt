-- The types of an operation's operands, results and arguments, and their numbers, by the columns of its row.
use Rattle.std.specs.Prelude.{ℕ, List, length, Option, Some, None, Bool, true}
use Rattle.xf_type.specs.declared.payload_type.PayloadType.{PayloadType}
use Rattle.xf_type.specs.Equal.{same_type}
use Rattle.xf_format.specs.Columns as columns
pub use Rattle.xf_format.specs.Columns.{one_type}
use Rattle.xf_format.specs.Parts.{Said}

abbrev pub result_types : Said → List PayloadType
result_types t = columns.types_given (columns.result_types t.row) t.types t.results

abbrev pub argument_types : Said → List PayloadType
argument_types t = columns.types_taken (columns.argument_types t.row) (length t.uses) t.types t.results

-- whether there are as many operands as there are to be
abbrev pub is_counted : Said → Bool
is_counted t = columns.is_counted (columns.operand_count t.row) t.types t.results (length t.uses)

-- the type that is stated for operand i, where one is
abbrev pub stated_type : Said → ℕ → Option PayloadType
stated_type t i = columns.operand_type (columns.operand_types t.row) t.types t.results i

-- a type that is stated is that of the value, where both are known
abbrev pub fits : Option PayloadType → Option PayloadType → Bool
fits None u = true
fits (Some t) None = true
fits (Some t) (Some u) = same_type t u
