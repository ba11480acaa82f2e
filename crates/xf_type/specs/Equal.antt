-- Whether two types are equal, as a test.
use Rattle.std.specs.Prelude.{List, [], ◌∷◌, Bool, true, false, ◌==◌, ◌&&◌}
use Rattle.xf_type.specs.declared.payload_type.PayloadType.{PayloadType}
use Rattle.xf_type.specs.declared.payload_type.PayloadType.TheVariants.{Scalar, Tensor}
use Rattle.xf_type.specs.declared.payload_type.Shape.{Shape}
use Rattle.xf_type.specs.declared.payload_type.Dim.{Dim}
use Rattle.xf_type.specs.declared.payload_type.Dim.TheVariants.{Fixed, Dynamic}
use Rattle.xf_type.specs.declared.payload_type.Width.{Width}
use Rattle.xf_type.specs.declared.payload_type.Width.TheVariants.{I1, I8, I16, I32, I64, Index}

abbrev pub same_width : Width → Width → Bool
same_width I1 I1 = true
same_width I8 I8 = true
same_width I16 I16 = true
same_width I32 I32 = true
same_width I64 I64 = true
same_width Index Index = true
same_width _ _ = false

abbrev pub same_dim : Dim → Dim → Bool
same_dim (Fixed a) (Fixed b) = a == b
same_dim (Fixed a) Dynamic = false
same_dim Dynamic (Fixed b) = false
same_dim Dynamic Dynamic = true

-- whether two lists are equal item by item
abbrev pub same_items : {A : Type 0} → (A → A → Bool) → List A → List A → Bool
same_items same [] [] = true
same_items same [] (y ∷ ys) = false
same_items same (x ∷ xs) [] = false
same_items same (x ∷ xs) (y ∷ ys) = same x y && same_items same xs ys

abbrev pub same_dims : List Dim → List Dim → Bool
same_dims ds es = same_items same_dim ds es

abbrev pub same_shape : Shape → Shape → Bool
same_shape s t = same_width s.elem t.elem && same_dims s.dims t.dims

abbrev pub same_type : PayloadType → PayloadType → Bool
same_type (Scalar w) (Scalar v) = same_width w v
same_type (Scalar w) (Tensor t) = false
same_type (Tensor s) (Scalar v) = false
same_type (Tensor s) (Tensor t) = same_shape s t

abbrev pub same_types : List PayloadType → List PayloadType → Bool
same_types ts us = same_items same_type ts us
