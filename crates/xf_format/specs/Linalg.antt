-- The rows of linalg (MLIR: the linalg dialect).
use Rattle.std.specs.Prelude.{ℕ, List, [], ◌∷◌, true, false, codes}
use Rattle.xf_ir.specs.declared.kind.NamedKind.TheVariants.{Matmul, BatchMatmul, Matvec, Dot, Fill}
use Rattle.xf_format.specs.declared.row.FormatElement.{FormatElement}
use Rattle.xf_format.specs.declared.row.FormatElement.TheVariants.{Mark, Word, Dictionary, Use, WidthOf, BlockParams}
use Rattle.xf_format.specs.declared.row.FormatElement.TheVariants.{Arrow, Ins, SomeIns, Outs, ResultType, BlockName}
use Rattle.xf_format.specs.declared.row.FormatElement.TheVariants.{Maps, Iterators, MarkedAttributes}
use Rattle.xf_format.specs.declared.row.Keyword.TheVariants as key
use Rattle.xf_format.specs.declared.row.Row.{Row}
use Rattle.xf_format.specs.declared.row.Row.TheVariants as row

abbrev pub words : List (List ℕ × Row)
words =
    (codes "linalg.matmul", row.Named Matmul) ∷ (codes "linalg.batch_matmul", row.Named BatchMatmul)
    ∷ (codes "linalg.matvec", row.Named Matvec) ∷ (codes "linalg.dot", row.Named Dot)
    ∷ (codes "linalg.fill", row.Named Fill) ∷ (codes "linalg.yield", row.LinalgYield)
    ∷ (codes "linalg.generic", row.Generic) ∷ []

-- linalg.matmul {..} ins(%0, %1 : tensor<4x4xi32>, tensor<4x4xi32>) outs(%2 : tensor<4x4xi32>) -> tensor<4x4xi32>
abbrev pub named_slots : List FormatElement
named_slots = Dictionary ∷ Ins ∷ Outs ∷ Arrow ∷ ResultType ∷ []

-- linalg.yield {..} %0 : i32
abbrev pub yield_slots : List FormatElement
yield_slots = Dictionary ∷ Use 0 ∷ Mark true 58 ∷ WidthOf 0 ∷ []

-- linalg.generic {indexing_maps = [affine_map<(d0) -> (d0)>], iterator_types = ["parallel"]} ins(%0 : tensor<4xi32>)
-- outs(%1 : tensor<4xi32>) attrs = {..}
abbrev pub generic_slots : List FormatElement
generic_slots =
    Mark true 123 ∷ Word false key.IndexingMaps ∷ Mark true 61 ∷ Mark true 91 ∷ Maps ∷ Mark false 44
    ∷ Word true key.IteratorTypes ∷ Mark true 61 ∷ Mark true 91 ∷ Iterators ∷ Mark false 125 ∷ SomeIns ∷ Outs
    ∷ MarkedAttributes ∷ []

-- ^bb0(%arg0: i32):
abbrev pub generic_header : List FormatElement
generic_header = BlockName ∷ Mark false 40 ∷ BlockParams ∷ Mark false 58 ∷ []

-- -> type
abbrev pub generic_tail : List FormatElement
generic_tail = Arrow ∷ ResultType ∷ []
