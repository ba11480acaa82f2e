-- V6: numbers and types of operands, results and yielded values fit the row.
use Rattle.std.specs.Prelude.{ℕ, ◌+◌, List, [], ◌∷◌, length, Option, Some, None, Bool}
use Rattle.std.specs.Prelude.{true, false, ◌==◌, ◌&&◌, ◌||◌, if◌then◌else◌}
use Rattle.xf_type.specs.declared.payload_type.PayloadType.{PayloadType}
use Rattle.xf_type.specs.declared.payload_type.PayloadType.TheVariants.{Scalar, Tensor}
use Rattle.xf_type.specs.declared.payload_type.Shape.{Shape}
use Rattle.xf_type.specs.declared.payload_type.Dim.{Dim}
use Rattle.xf_type.specs.declared.payload_type.Width.{Width}
use Rattle.xf_type.specs.declared.payload_type.Width.TheVariants.{I1, Index}
use Rattle.xf_ir.specs.declared.kind.Kind.{Kind}
use Rattle.xf_ir.specs.declared.kind.Kind.TheVariants as kind
use Rattle.xf_ir.specs.declared.kind.NamedKind.{NamedKind}
use Rattle.xf_ir.specs.declared.kind.NamedKind.TheVariants.{Matmul, BatchMatmul, Matvec, Dot, Fill}
use Rattle.xf_ir.specs.declared.kind.SliceIndex.{SliceIndex}
use Rattle.xf_ir.specs.declared.kind.SliceIndex.TheVariants as index
use Rattle.xf_ir.specs.Lists.{every, is_empty, behind_first}
use Rattle.xf_type.specs.Equal.{same_width, same_dim, same_items, same_types}
use Rattle.xf_ir.specs.Types.{have_types, are_indices, first_type, last_type, is_tensor_with}
use Rattle.xf_ir.specs.Types.{is_scalar, element_of, is_dynamic, dynamic_count}
use Rattle.xf_ir.specs.Calls.{Signature, Signatures}
use Rattle.xf_ir.specs.Placed.{Placed}

-- the types of the operands and of the results of an operation
abbrev pub TypeRule : Type 0
TypeRule = List (Option PayloadType) → List PayloadType → Bool

-- operands of these types and results of those
abbrev pub takes_gives : List PayloadType → List PayloadType → TypeRule
takes_gives wanted given os ts = have_types os wanted && same_types ts given

-- operands that a function takes; where a call has none, and what its results are, is another rule's
abbrev pub are_inputs : Option Signature → List (Option PayloadType) → Bool
are_inputs None os = true
are_inputs (Some s) os = have_types os s.inputs

-- ---- tensors

-- one size for each dynamic dimension
abbrev pub empty_row : TypeRule
empty_row os [] = false
empty_row os (t ∷ ts) = is_tensor_with (λ s. are_indices (dynamic_count s.dims) os) (Some t) && is_empty ts

abbrev pub dim_row : TypeRule
dim_row os ts =
    is_tensor_with (λ s. true) (first_type os)
    && (are_indices 1 (behind_first os) && same_types ts (Scalar Index ∷ []))

-- one index for each dimension, and the element
abbrev pub extract_row : TypeRule
extract_row os ts =
    is_tensor_with
    (λ s. are_indices (length s.dims) (behind_first os) && same_types ts (Scalar s.elem ∷ []))
    (first_type os)

-- the element, the target, and one index for each dimension of it
abbrev pub insert_row : TypeRule
insert_row os ts =
    is_tensor_with
    (λ s.
    takes_gives (Scalar s.elem ∷ (Tensor s ∷ [])) (Tensor s ∷ [])
    (first_type os ∷ (first_type (behind_first os) ∷ [])) ts
    && are_indices (length s.dims) (behind_first (behind_first os)))
    (first_type (behind_first os))

abbrev pub is_open : SliceIndex → Bool
is_open (index.Fixed n) = false
is_open index.Dynamic = true

-- how many offsets or sizes are operands
abbrev pub open_count : List SliceIndex → ℕ
open_count [] = 0
open_count (x ∷ xs) = if is_open x then open_count xs + 1 else open_count xs

-- one offset and one size for each dimension of the larger type, and an index operand for each that is no number
abbrev pub slice_indices : List SliceIndex → List SliceIndex → Shape → List (Option PayloadType) → Bool
slice_indices offsets sizes larger os =
    ((length offsets == length larger.dims) && (length sizes == length larger.dims))
    && are_indices (open_count offsets + open_count sizes) os

abbrev pub is_one_tensor : List PayloadType → Bool
is_one_tensor [] = false
is_one_tensor (t ∷ ts) = is_tensor_with (λ s. true) (Some t) && is_empty ts

-- the source, and a tensor as result
abbrev pub extract_slice_row : List SliceIndex → List SliceIndex → TypeRule
extract_slice_row offsets sizes os ts =
    is_tensor_with (λ s. slice_indices offsets sizes s (behind_first os)) (first_type os) && is_one_tensor ts

-- the source, the target, and the target's type as result
abbrev pub insert_slice_row : List SliceIndex → List SliceIndex → TypeRule
insert_slice_row offsets sizes os ts =
    is_tensor_with (λ s. true) (first_type os)
    && is_tensor_with
    (λ s. slice_indices offsets sizes s (behind_first (behind_first os)) && same_types ts (Tensor s ∷ []))
    (first_type (behind_first os))

-- no dimension is fixed in both with different sizes
abbrev pub dims_cast : Dim → Dim → Bool
dims_cast a b = same_dim a b || (is_dynamic a || is_dynamic b)

-- rank and element type stay
abbrev pub cast_row : TypeRule
cast_row os [] = false
cast_row os (t ∷ ts) =
    is_tensor_with
    (λ a. is_tensor_with (λ b. same_width a.elem b.elem && same_items dims_cast a.dims b.dims) (Some t))
    (first_type os)
    && (is_empty (behind_first os) && is_empty ts)

-- ---- structured operations

-- the out is a tensor, and the result has its type
abbrev pub out_row : TypeRule
out_row os ts = is_tensor_with (λ s. same_types ts (Tensor s ∷ [])) (last_type os)

abbrev pub operand_count : NamedKind → ℕ
operand_count Matmul = 3
operand_count BatchMatmul = 3
operand_count Matvec = 3
operand_count Dot = 3
operand_count Fill = 2

abbrev pub has_element : Width → Option PayloadType → Bool
has_element w None = false
has_element w (Some t) = same_width (element_of t) w

-- the value that a fill takes is a scalar
abbrev pub fill_fits : NamedKind → List (Option PayloadType) → Bool
fill_fits Fill os = is_scalar (first_type os)
fill_fits _ os = true

-- so many operands, all of the out's element type
abbrev pub named_row : NamedKind → TypeRule
named_row k os ts =
    (length os == operand_count k)
    && (out_row os ts && (is_tensor_with (λ s. every (has_element s.elem) os) (last_type os) && fill_fits k os))

-- ---- the row of each kind, in a block whose terminator gives these types

abbrev pub row_of : Signatures → List PayloadType → Kind → TypeRule
row_of sigs gives (kind.Module symbol) = takes_gives [] []
row_of sigs gives (kind.Func symbol private results) = takes_gives [] []
row_of sigs gives kind.Return = takes_gives gives []
row_of sigs gives (kind.Call callee) = λ os ts. are_inputs (sigs callee) os
row_of sigs gives (kind.Constant width bits) = takes_gives [] (Scalar width ∷ [])
row_of sigs gives (kind.Dense shape numbers) = takes_gives [] (Tensor shape ∷ [])
row_of sigs gives (kind.Binary which width) = takes_gives (Scalar width ∷ (Scalar width ∷ [])) (Scalar width ∷ [])
row_of sigs gives (kind.Compare which width) = takes_gives (Scalar width ∷ (Scalar width ∷ [])) (Scalar I1 ∷ [])
row_of sigs gives (kind.Select width) =
    takes_gives (Scalar I1 ∷ (Scalar width ∷ (Scalar width ∷ []))) (Scalar width ∷ [])
row_of sigs gives (kind.Convert which from to) = takes_gives (Scalar from ∷ []) (Scalar to ∷ [])
row_of sigs gives (kind.For width) = λ os ts. have_types os (Scalar width ∷ (Scalar width ∷ (Scalar width ∷ ts)))
row_of sigs gives kind.If = λ os ts. have_types os (Scalar I1 ∷ [])
row_of sigs gives kind.Yield = takes_gives gives []
row_of sigs gives kind.Empty = empty_row
row_of sigs gives kind.Dim = dim_row
row_of sigs gives kind.Extract = extract_row
row_of sigs gives kind.Insert = insert_row
row_of sigs gives (kind.ExtractSlice offsets sizes) = extract_slice_row offsets sizes
row_of sigs gives (kind.InsertSlice offsets sizes) = insert_slice_row offsets sizes
row_of sigs gives kind.Cast = cast_row
row_of sigs gives (kind.Named which) = named_row which
row_of sigs gives (kind.Generic maps iterators) = out_row
row_of sigs gives kind.LinalgYield = takes_gives gives []

abbrev pub has_its_types : Signatures → Placed → Bool
has_its_types sigs p = row_of sigs p.holder.gives p.tree.kind p.types p.tree.results
