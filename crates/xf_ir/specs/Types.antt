-- Tests of types (MLIR: builtin types).
use Rattle.std.specs.Prelude.{ℕ, ◌+◌, List, [], ◌∷◌, length, replicate, Option, Some, None, is_some}
use Rattle.std.specs.Prelude.{Bool, true, false, ◌&&◌, if◌then◌else◌}
use Rattle.xf_type.specs.declared.payload_type.PayloadType.{PayloadType}
use Rattle.xf_type.specs.declared.payload_type.PayloadType.TheVariants.{Scalar, Tensor}
use Rattle.xf_type.specs.declared.payload_type.Shape.{Shape}
use Rattle.xf_type.specs.declared.payload_type.Dim.{Dim}
use Rattle.xf_type.specs.declared.payload_type.Dim.TheVariants.{Fixed, Dynamic}
use Rattle.xf_type.specs.declared.payload_type.Width.{Width}
use Rattle.xf_type.specs.declared.payload_type.Width.TheVariants.{Index}
use Rattle.xf_type.specs.Equal.{same_type}

-- ---- types of operands, none where an operand is not visible

abbrev pub known : Option PayloadType → Bool
known o = is_some o

abbrev pub has_type : Option PayloadType → PayloadType → Bool
has_type None t = false
has_type (Some u) t = same_type u t

-- whether the operands have these types
abbrev pub have_types : List (Option PayloadType) → List PayloadType → Bool
have_types [] [] = true
have_types [] (t ∷ ts) = false
have_types (o ∷ os) [] = false
have_types (o ∷ os) (t ∷ ts) = has_type o t && have_types os ts

-- whether they are so many values of the width index
abbrev pub are_indices : ℕ → List (Option PayloadType) → Bool
are_indices count os = have_types os (replicate count (Scalar Index))

abbrev pub first_type : List (Option PayloadType) → Option PayloadType
first_type [] = None
first_type (o ∷ os) = o

abbrev pub last_type : List (Option PayloadType) → Option PayloadType
last_type [] = None
last_type (o ∷ []) = o
last_type (o ∷ (o' ∷ os)) = last_type (o' ∷ os)

-- ---- tensors

-- whether it is the type of a tensor whose shape passes
abbrev pub is_tensor_with : (Shape → Bool) → Option PayloadType → Bool
is_tensor_with passes None = false
is_tensor_with passes (Some (Scalar w)) = false
is_tensor_with passes (Some (Tensor s)) = passes s

abbrev pub is_scalar : Option PayloadType → Bool
is_scalar None = false
is_scalar (Some (Scalar w)) = true
is_scalar (Some (Tensor s)) = false

-- the width of the elements; a scalar is its own element
abbrev pub element_of : PayloadType → Width
element_of (Scalar w) = w
element_of (Tensor s) = s.elem

-- the dimensions; a scalar has none
abbrev pub dims_of : PayloadType → List Dim
dims_of (Scalar w) = []
dims_of (Tensor s) = s.dims

abbrev pub rank_of : PayloadType → ℕ
rank_of t = length (dims_of t)

abbrev pub is_dynamic : Dim → Bool
is_dynamic (Fixed extent) = false
is_dynamic Dynamic = true

-- how many dimensions are dynamic
abbrev pub dynamic_count : List Dim → ℕ
dynamic_count [] = 0
dynamic_count (d ∷ ds) = if is_dynamic d then dynamic_count ds + 1 else dynamic_count ds
