-- The value that is held.
use Rattle.std.specs.Prelude.{ℕ, List, Option, Some, None, if◌then◌else◌, Bool, false, ◌&&◌, length}
use Rattle.xf_type.specs.declared.payload_type.PayloadType.{PayloadType}
use Rattle.xf_type.specs.declared.payload_type.PayloadType.TheVariants as type_of
use Rattle.xf_sem.specs.Values.{fits_dims}
use Rattle.xf_type.specs.declared.payload_type.Width.{Width}
use Rattle.xf_type.specs.declared.payload_type.Elem.{Elem}
use Rattle.xf_type.specs.Equal.{same_width}
use Rattle.xf_sem.specs.declared.value.Value.{Value}
use Rattle.xf_sem.specs.declared.value.Value.TheVariants as value_of
use Rattle.xf_eval_values.specs.declared.held.Tensor.{Tensor}
use Rattle.xf_eval_values.specs.declared.held.Item.{Item}
use Rattle.xf_eval_values.specs.declared.held.Item.TheVariants.{Scalar, Shared}

abbrev pub seen_item : Item → Value
seen_item (Scalar width elem) = value_of.Scalar width elem
seen_item (Shared tensor) = value_of.Tensor tensor.value.width tensor.value.shape tensor.value.elems

-- the element of a scalar of that width
abbrev pub elem_of : Width → Value → Option Elem
elem_of width (value_of.Scalar own elem) = if same_width own width then Some elem else None
elem_of width (value_of.Tensor own shape elems) = None

-- whether a tensor of this width and these sizes fits a type
abbrev pub fits_tensor : Width → List ℕ → PayloadType → Bool
fits_tensor width sizes (type_of.Scalar wanted) = false
fits_tensor width sizes (type_of.Tensor wanted) = same_width width wanted.elem && fits_dims sizes wanted.dims

-- whether a scalar of this width fits a type
abbrev pub fits_scalar : Width → PayloadType → Bool
fits_scalar width (type_of.Scalar wanted) = same_width width wanted
fits_scalar width (type_of.Tensor wanted) = false

-- the element of a scalar; a tensor has none that is its own
abbrev pub scalar_of : Value → Option Elem
scalar_of (value_of.Scalar width elem) = Some elem
scalar_of (value_of.Tensor width shape elems) = None

-- the parts of a tensor; a scalar has none
abbrev pub tensor_of : Value → Option Tensor
tensor_of (value_of.Scalar width elem) = None
tensor_of (value_of.Tensor width shape elems) = Some (record { width = width; shape = shape; elems = elems })

abbrev pub as_value : Tensor → Value
as_value t = value_of.Tensor t.width t.shape t.elems

-- how many elements a tensor has; a scalar counts for none
abbrev pub elements_of : Value → ℕ
elements_of (value_of.Scalar width elem) = 0
elements_of (value_of.Tensor width shape elems) = length elems
