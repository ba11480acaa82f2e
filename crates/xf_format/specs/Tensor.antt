-- The rows of tensor (MLIR: the tensor dialect).
use Rattle.std.specs.Prelude.{ℕ, List, [], ◌∷◌, true, false, codes}
use Rattle.xf_format.specs.declared.row.FormatElement.{FormatElement}
use Rattle.xf_format.specs.declared.row.FormatElement.TheVariants.{Mark, Word, Dictionary, Use, Uses, TypeOf, TensorOf}
use Rattle.xf_format.specs.declared.row.FormatElement.TheVariants.{ResultType, ResultTensor, Places, Strides}
use Rattle.xf_format.specs.declared.row.Keyword.TheVariants as key
use Rattle.xf_format.specs.declared.row.Side.TheVariants as side
use Rattle.xf_format.specs.declared.row.Row.{Row}
use Rattle.xf_format.specs.declared.row.Row.TheVariants as row

abbrev pub words : List (List ℕ × Row)
words =
    (codes "tensor.empty", row.Empty) ∷ (codes "tensor.dim", row.Dim) ∷ (codes "tensor.extract", row.Extract)
    ∷ (codes "tensor.insert", row.Insert) ∷ (codes "tensor.extract_slice", row.ExtractSlice)
    ∷ (codes "tensor.insert_slice", row.InsertSlice) ∷ (codes "tensor.cast", row.Cast) ∷ []

-- tensor.empty(%0, %1) {..} : tensor<?x?xi32>
abbrev pub empty_slots : List FormatElement
empty_slots = Mark false 40 ∷ Uses 0 41 ∷ Dictionary ∷ Mark true 58 ∷ ResultTensor ∷ []

-- tensor.dim {..} %0, %1 : tensor<?xi32>
abbrev pub dim_slots : List FormatElement
dim_slots = Dictionary ∷ Use 0 ∷ Mark false 44 ∷ Use 1 ∷ Mark true 58 ∷ TensorOf 0 ∷ []

-- tensor.extract %0[%1, %2] {..} : tensor<4x4xi32>
abbrev pub extract_slots : List FormatElement
extract_slots = Use 0 ∷ Mark false 91 ∷ Uses 1 93 ∷ Dictionary ∷ Mark true 58 ∷ TensorOf 0 ∷ []

-- tensor.insert %0 into %1[%2, %3] {..} : tensor<4x4xi32>
abbrev pub insert_slots : List FormatElement
insert_slots =
    Use 0 ∷ Word true key.Into ∷ Use 1 ∷ Mark false 91 ∷ Uses 2 93 ∷ Dictionary ∷ Mark true 58 ∷ TensorOf 1 ∷ []

-- [0, %1] [4, %2] [1, 1]
abbrev pub window_slots : List FormatElement → List FormatElement
window_slots ss =
    Mark false 91 ∷ Places side.Offsets ∷ Mark true 91 ∷ Places side.Sizes ∷ Mark true 91 ∷ Strides ∷ Dictionary
    ∷ Mark true 58 ∷ ss

-- tensor.extract_slice %0[0, %1] [4, %2] [1, 1] {..} : tensor<8x8xi32> to tensor<4x?xi32>
abbrev pub extract_slice_slots : List FormatElement
extract_slice_slots = Use 0 ∷ window_slots (TypeOf 0 ∷ Word true key.To ∷ ResultType ∷ [])

-- tensor.insert_slice %0 into %1[0, %2] [4, %3] [1, 1] {..} : tensor<4x?xi32> into tensor<8x8xi32>
abbrev pub insert_slice_slots : List FormatElement
insert_slice_slots =
    Use 0 ∷ Word true key.Into ∷ Use 1 ∷ window_slots (TypeOf 0 ∷ Word true key.Into ∷ TypeOf 1 ∷ [])

-- tensor.cast %0 {..} : tensor<4xi32> to tensor<?xi32>
abbrev pub cast_slots : List FormatElement
cast_slots = Use 0 ∷ Dictionary ∷ Mark true 58 ∷ TypeOf 0 ∷ Word true key.To ∷ ResultType ∷ []
