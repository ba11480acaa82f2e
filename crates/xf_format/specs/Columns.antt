-- How the values of an operation follow from what its row states: the types of operands, of results and of block
-- arguments, and how many operands there are.
use Rattle.std.specs.Prelude.{ℕ, ◌+◌, ◌-◌, ◌==◌, List, [], ◌∷◌, ◌++◌, length, Option, Some, None, Bool, true}
use Rattle.std.specs.Prelude.{if◌then◌else◌, option_map, nat_le, nat_lt, slice_get, drop}
use Rattle.xf_type.specs.declared.payload_type.PayloadType.{PayloadType}
use Rattle.xf_type.specs.declared.payload_type.PayloadType.TheVariants.{Scalar, Tensor}
use Rattle.xf_type.specs.declared.payload_type.Width.TheVariants as width
use Rattle.xf_format.specs.declared.columns.ArgumentTypes.{ArgumentTypes}
use Rattle.xf_format.specs.declared.columns.ArgumentTypes.TheVariants as arguments
use Rattle.xf_format.specs.declared.columns.OperandCount.{OperandCount}
use Rattle.xf_format.specs.declared.columns.OperandCount.TheVariants as count
use Rattle.xf_format.specs.declared.columns.OperandTypes.{OperandTypes}
use Rattle.xf_format.specs.declared.columns.OperandTypes.TheVariants as operands
use Rattle.xf_format.specs.declared.columns.ResultTypes.{ResultTypes}
use Rattle.xf_format.specs.declared.columns.ResultTypes.TheVariants as results
use Rattle.xf_format.specs.declared.row.Row.{Row}
use Rattle.xf_format.specs.declared.row.Row.TheVariants as row

-- ---- the columns

abbrev pub operand_types : Row → OperandTypes
operand_types (row.Binary k) = operands.Same 0
operand_types row.Compare = operands.Same 0
operand_types row.Select = operands.Same 1
operand_types (row.Convert k) = operands.Listed 0
operand_types row.For = operands.Loop
operand_types row.Insert = operands.Listed 1
operand_types r = operands.Listed 0

abbrev pub result_types : Row → ResultTypes
result_types row.Call = results.Listed
result_types row.Constant = results.Stated 0
result_types (row.Binary k) = results.Stated 0
result_types row.Compare = results.Scalar width.I1
result_types row.Select = results.Stated 0
result_types (row.Convert k) = results.Stated 1
result_types row.For = results.Listed
result_types row.If = results.Listed
result_types row.Empty = results.Listed
result_types row.Dim = results.Scalar width.Index
result_types row.Extract = results.Element
result_types row.Insert = results.Stated 0
result_types row.Cast = results.Listed
result_types (row.Named k) = results.Listed
result_types row.ExtractSlice = results.Listed
result_types row.InsertSlice = results.Stated 1
result_types row.Generic = results.Listed
result_types r = results.Nothing

abbrev pub argument_types : Row → ArgumentTypes
argument_types row.Function = arguments.Stated
argument_types row.For = arguments.Loop
argument_types row.Generic = arguments.Behind
argument_types r = arguments.Nothing

abbrev pub operand_count : Row → OperandCount
operand_count row.Return = count.Types
operand_count row.Call = count.Types
operand_count row.For = count.Loop
operand_count row.Yield = count.Types
operand_count (row.Named k) = count.Types
operand_count row.Generic = count.AtMost
operand_count r = count.Any

-- ---- what they say, by the types that are stated and those behind the arrow

-- the type that is stated for operand i: those of a loop are its bounds, its step and its initial values
abbrev pub operand_type : OperandTypes → List PayloadType → List PayloadType → ℕ → Option PayloadType
operand_type (operands.Listed k) types given i = if nat_lt i k then None else slice_get types (i - k)
operand_type (operands.Same k) types given i = if nat_lt i k then None else slice_get types 0
operand_type operands.Loop types given i = if nat_lt i 3 then slice_get types 0 else slice_get given (i - 3)

abbrev pub one_type : Option PayloadType → List PayloadType
one_type None = []
one_type (Some t) = t ∷ []

-- the type of the elements of a tensor
abbrev pub element_of : PayloadType → PayloadType
element_of (Scalar w) = Scalar w
element_of (Tensor s) = Scalar s.elem

abbrev pub types_given : ResultTypes → List PayloadType → List PayloadType → List PayloadType
types_given results.Nothing types given = []
types_given results.Listed types given = given
types_given (results.Stated k) types given = one_type (slice_get types k)
types_given (results.Scalar w) types given = Scalar w ∷ []
types_given results.Element types given = one_type (option_map element_of (slice_get types 0))

-- those of a loop are its induction value and its iteration values; behind the types of so many operands stand those of
-- a block
abbrev pub types_taken : ArgumentTypes → ℕ → List PayloadType → List PayloadType → List PayloadType
types_taken arguments.Nothing n types given = []
types_taken arguments.Stated n types given = types
types_taken arguments.Loop n types given = types ++ given
types_taken arguments.Behind n types given = drop n types

-- whether there may be so many operands
abbrev pub is_counted : OperandCount → List PayloadType → List PayloadType → ℕ → Bool
is_counted count.Any types given n = true
is_counted count.Types types given n = n == length types
is_counted count.Loop types given n = n == 3 + length given
is_counted count.AtMost types given n = nat_le n (length types)
