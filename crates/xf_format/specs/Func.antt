-- The rows of func (MLIR: the func dialect).
use Rattle.std.specs.Prelude.{ℕ, List, [], ◌∷◌, codes, true, false}
use Rattle.xf_format.specs.declared.row.FormatElement.{FormatElement}
use Rattle.xf_format.specs.declared.row.FormatElement.TheVariants.{Mark, FunctionName, Symbol, Attributes, Dictionary}
use Rattle.xf_format.specs.declared.row.FormatElement.TheVariants.{Uses, Types, Params, Operands, CallResults}
use Rattle.xf_format.specs.declared.row.FormatElement.TheVariants.{FunctionResults}
use Rattle.xf_format.specs.declared.row.Row.{Row}
use Rattle.xf_format.specs.declared.row.Row.TheVariants as row

-- a row is printed with the first of its words
abbrev pub words : List (List ℕ × Row)
words =
    (codes "func.func", row.Function) ∷ (codes "func.return", row.Return) ∷ (codes "return", row.Return)
    ∷ (codes "func.call", row.Call) ∷ (codes "call", row.Call) ∷ []

-- func.func private @name(%arg0: i32) -> i32 attributes {..}
abbrev pub function_slots : List FormatElement
function_slots = FunctionName ∷ Mark false 40 ∷ Params ∷ FunctionResults ∷ Attributes ∷ []

-- func.return {..} %0 : i32
abbrev pub terminator_slots : List FormatElement
terminator_slots = Dictionary ∷ Operands ∷ []

-- func.call @name(%0) {..} : (i32) -> i32
abbrev pub call_slots : List FormatElement
call_slots = Symbol ∷ Mark false 40 ∷ Uses 0 41 ∷ Dictionary ∷ Mark true 58 ∷ Mark true 40 ∷ Types ∷ CallResults ∷ []
