-- The rows of scf (MLIR: the scf dialect).
use Rattle.std.specs.Prelude.{ℕ, List, [], ◌∷◌, codes, true}
use Rattle.xf_format.specs.declared.row.FormatElement.{FormatElement}
use Rattle.xf_format.specs.declared.row.FormatElement.TheVariants.{Mark, Word, Argument, Use, IfResults, IterArgs}
use Rattle.xf_format.specs.declared.row.FormatElement.TheVariants.{LoopWidth}
use Rattle.xf_format.specs.declared.row.Keyword.TheVariants as key
use Rattle.xf_format.specs.declared.row.Row.{Row}
use Rattle.xf_format.specs.declared.row.Row.TheVariants as row

abbrev pub words : List (List ℕ × Row)
words = (codes "scf.for", row.For) ∷ (codes "scf.if", row.If) ∷ (codes "scf.yield", row.Yield) ∷ []

-- scf.for %arg0 = %0 to %1 step %2 iter_args(%arg1 = %3) -> (i32) : i64
abbrev pub for_slots : List FormatElement
for_slots = Argument ∷ Mark true 61 ∷ Use 0 ∷ Word true key.To ∷ Use 1 ∷ Word true key.Step ∷ Use 2 ∷ IterArgs ∷ LoopWidth ∷ []

-- scf.if %0 -> (i32)
abbrev pub if_slots : List FormatElement
if_slots = Use 0 ∷ IfResults ∷ []
