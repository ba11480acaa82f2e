-- The table of the operations: the words of each row, what stands behind its word up to the first brace, its bodies
-- with what begins each of them, and what stands behind them.
use Rattle.std.specs.Prelude.{ℕ, List, [], ◌∷◌, ◌++◌, Bool, true, false}
use Rattle.xf_format.specs.declared.row.Body.{Body}
use Rattle.xf_format.specs.declared.row.Body.TheVariants as body
use Rattle.xf_format.specs.declared.row.FormatElement.{FormatElement}
use Rattle.xf_format.specs.declared.row.FormatElement.TheVariants.{Dictionary}
use Rattle.xf_format.specs.declared.row.Level.{Level}
use Rattle.xf_format.specs.declared.row.Level.TheVariants as level
use Rattle.xf_format.specs.declared.row.Row.{Row}
use Rattle.xf_format.specs.declared.row.Row.TheVariants as row
use Rattle.xf_format.specs.Builtin as builtin
use Rattle.xf_format.specs.Func as func
use Rattle.xf_format.specs.Arith as arith
use Rattle.xf_format.specs.Scf as scf
use Rattle.xf_format.specs.Tensor as tensor
use Rattle.xf_format.specs.Linalg as linalg

-- each word of an operation, and its row
abbrev pub words : List (List ℕ × Row)
words = builtin.words ++ (func.words ++ (arith.words ++ (scf.words ++ (tensor.words ++ linalg.words))))

abbrev pub slots : Row → List FormatElement
slots row.Module = builtin.module_slots
slots row.Function = func.function_slots
slots row.Return = func.terminator_slots
slots row.Call = func.call_slots
slots row.Constant = arith.constant_slots
slots (row.Binary k) = arith.binary_slots
slots row.Compare = arith.compare_slots
slots row.Select = arith.select_slots
slots (row.Convert k) = arith.convert_slots
slots row.For = scf.for_slots
slots row.If = scf.if_slots
slots row.Yield = func.terminator_slots
slots row.Empty = tensor.empty_slots
slots row.Dim = tensor.dim_slots
slots row.Extract = tensor.extract_slots
slots row.Insert = tensor.insert_slots
slots row.Cast = tensor.cast_slots
slots (row.Named k) = linalg.named_slots
slots row.ExtractSlice = tensor.extract_slice_slots
slots row.InsertSlice = tensor.insert_slice_slots
slots row.Generic = linalg.generic_slots
slots row.LinalgYield = linalg.yield_slots

-- no body, one, or one and optionally else and another
abbrev pub bodies : Row → Body
bodies row.Module = body.One
bodies row.Function = body.One
bodies row.For = body.One
bodies row.If = body.WithElse
bodies row.Generic = body.One
bodies r = body.None

abbrev pub header : Row → List FormatElement
header row.Generic = linalg.generic_header
header r = []

abbrev pub tail : Row → List FormatElement
tail row.For = Dictionary ∷ []
tail row.If = Dictionary ∷ []
tail row.Generic = linalg.generic_tail
tail r = []

-- ---- where an operation may stand

abbrev pub is_function : Row → Bool
is_function row.Function = true
is_function r = false

abbrev pub stands : Level → Row → Bool
stands level.Any r = true
stands level.File row.Module = true
stands level.File r = is_function r
stands level.Functions r = is_function r
stands level.Body row.Module = false
stands level.Body row.Function = false
stands level.Body r = true

-- whether operations other than modules and functions stand there
abbrev pub has_operations : Level → Bool
has_operations level.File = false
has_operations level.Functions = false
has_operations level.Body = true
has_operations level.Any = true

-- where the operations of a body stand
abbrev pub inside : Row → Level
inside row.Module = level.Functions
inside r = level.Body

-- and those behind the first one
abbrev pub behind : Level → Level
behind level.File = level.Functions
behind l = l

abbrev pub is_yield : Row → Bool
is_yield row.Yield = true
is_yield r = false
