-- The rows of arith (MLIR: the arith dialect).
use Rattle.std.specs.Prelude.{ℕ, List, [], ◌∷◌, ◌++◌, map, codes, true, false}
use Rattle.xf_type.specs.Spelling.{all_binaries, binary_spelling, all_conversions, conversion_spelling}
use Rattle.xf_format.specs.declared.row.FormatElement.{FormatElement}
use Rattle.xf_format.specs.declared.row.FormatElement.TheVariants.{Mark, Word, Dictionary, Literal, Predicate, Use}
use Rattle.xf_format.specs.declared.row.FormatElement.TheVariants.{Width}
use Rattle.xf_format.specs.declared.row.Keyword.TheVariants as key
use Rattle.xf_format.specs.declared.row.Row.{Row}
use Rattle.xf_format.specs.declared.row.Row.TheVariants as row

abbrev pub singles : List (List ℕ × Row)
singles =
    (codes "arith.constant", row.Constant) ∷ (codes "arith.cmpi", row.Compare)
    ∷ (codes "arith.select", row.Select) ∷ []

abbrev pub binaries : List (List ℕ × Row)
binaries = map (λ k. (binary_spelling k, row.Binary k)) all_binaries

abbrev pub conversions : List (List ℕ × Row)
conversions = map (λ k. (conversion_spelling k, row.Convert k)) all_conversions

abbrev pub words : List (List ℕ × Row)
words = singles ++ (binaries ++ conversions)

-- {..} : width, behind the operands
abbrev pub of_width : List FormatElement
of_width = Dictionary ∷ Mark true 58 ∷ Width 0 ∷ []

-- arith.constant {..} 5 : i32
abbrev pub constant_slots : List FormatElement
constant_slots = Dictionary ∷ Literal ∷ []

-- arith.addi %0, %1 {..} : i32
abbrev pub binary_slots : List FormatElement
binary_slots = Use 0 ∷ Mark false 44 ∷ Use 1 ∷ of_width

-- arith.cmpi slt, %0, %1 {..} : i32
abbrev pub compare_slots : List FormatElement
compare_slots = Predicate ∷ Mark false 44 ∷ Use 0 ∷ Mark false 44 ∷ Use 1 ∷ of_width

-- arith.select %0, %1, %2 {..} : i32
abbrev pub select_slots : List FormatElement
select_slots = Use 0 ∷ Mark false 44 ∷ Use 1 ∷ Mark false 44 ∷ Use 2 ∷ of_width

-- arith.extsi %0 {..} : i8 to i32
abbrev pub convert_slots : List FormatElement
convert_slots = Use 0 ∷ Dictionary ∷ Mark true 58 ∷ Width 0 ∷ Word true key.To ∷ Width 1 ∷ []
