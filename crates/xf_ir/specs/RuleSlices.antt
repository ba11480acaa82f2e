-- V16: slices keep rank and element type and have fixed offsets and sizes of at least 0; the smaller type has a fixed
-- dimension exactly where the size is fixed, and equal to it (MLIR: tensor.extract_slice, tensor.insert_slice). Strides
-- are 1.
use Rattle.std.specs.Prelude.{ℕ, List, [], ◌∷◌, length, Option, Some, None, Bool}
use Rattle.std.specs.Prelude.{true, false, ◌==◌, ◌&&◌, ℤ, pos, negsuc}
use Rattle.xf_type.specs.declared.payload_type.PayloadType.{PayloadType}
use Rattle.xf_type.specs.declared.payload_type.Shape.{Shape}
use Rattle.xf_type.specs.declared.payload_type.Dim.{Dim}
use Rattle.xf_type.specs.declared.payload_type.Dim.TheVariants.{Fixed, Dynamic}
use Rattle.xf_ir.specs.declared.kind.Kind.{Kind}
use Rattle.xf_ir.specs.declared.kind.Kind.TheVariants as kind
use Rattle.xf_ir.specs.declared.kind.SliceIndex.{SliceIndex}
use Rattle.xf_ir.specs.declared.kind.SliceIndex.TheVariants as index
use Rattle.xf_ir.specs.Lists.{every, behind_first}
use Rattle.xf_type.specs.Equal.{same_width}
use Rattle.xf_ir.specs.Types.{first_type, is_tensor_with}
use Rattle.xf_ir.specs.Placed.{Placed}

abbrev pub is_positive : ℤ → Bool
is_positive (pos n) = true
is_positive (negsuc n) = false

-- whether an offset or a size that is a number is at least 0
abbrev pub is_at_least_zero : SliceIndex → Bool
is_at_least_zero (index.Fixed z) = is_positive z
is_at_least_zero index.Dynamic = true

abbrev pub is_number : ℤ → ℕ → Bool
is_number (pos n) extent = n == extent
is_number (negsuc n) extent = false

-- a fixed dimension exactly where the size is fixed, and equal to it
abbrev pub size_fits : SliceIndex → Dim → Bool
size_fits (index.Fixed z) (Fixed extent) = is_number z extent
size_fits (index.Fixed z) Dynamic = false
size_fits index.Dynamic (Fixed extent) = false
size_fits index.Dynamic Dynamic = true

abbrev pub sizes_fit : List SliceIndex → List Dim → Bool
sizes_fit [] [] = true
sizes_fit [] (d ∷ ds) = false
sizes_fit (x ∷ xs) [] = false
sizes_fit (x ∷ xs) (d ∷ ds) = size_fits x d && sizes_fit xs ds

abbrev pub slice_fits : List SliceIndex → List SliceIndex → Shape → Shape → Bool
slice_fits offsets sizes smaller larger =
    ((length smaller.dims == length larger.dims) && same_width smaller.elem larger.elem)
    && ((every is_at_least_zero offsets && every is_at_least_zero sizes) && sizes_fit sizes smaller.dims)

-- a slice between two types, the smaller first
abbrev pub slice_between : List SliceIndex → List SliceIndex → Option PayloadType → Option PayloadType → Bool
slice_between offsets sizes small large = is_tensor_with (λ s. is_tensor_with (slice_fits offsets sizes s) large) small

abbrev pub first_result : List PayloadType → Option PayloadType
first_result [] = None
first_result (t ∷ ts) = Some t

abbrev pub slices : Kind → List (Option PayloadType) → List PayloadType → Bool
slices (kind.ExtractSlice offsets sizes) os ts = slice_between offsets sizes (first_result ts) (first_type os)
slices (kind.InsertSlice offsets sizes) os ts =
    slice_between offsets sizes (first_type os) (first_type (behind_first os))
slices _ os ts = true

abbrev pub has_its_slices : Placed → Bool
has_its_slices p = slices p.tree.kind p.types p.tree.results
