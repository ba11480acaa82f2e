-- The rows of builtin (MLIR: the builtin dialect).
use Rattle.std.specs.Prelude.{ℕ, List, [], ◌∷◌, codes}
use Rattle.xf_format.specs.declared.row.FormatElement.{FormatElement}
use Rattle.xf_format.specs.declared.row.FormatElement.TheVariants.{ModuleName, Attributes}
use Rattle.xf_format.specs.declared.row.Row.{Row}
use Rattle.xf_format.specs.declared.row.Row.TheVariants as row

abbrev pub words : List (List ℕ × Row)
words = (codes "module", row.Module) ∷ []

-- module @name attributes {..}
abbrev pub module_slots : List FormatElement
module_slots = ModuleName ∷ Attributes ∷ []
