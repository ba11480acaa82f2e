-- The values of a payload, and the types that they fit.
use Rattle.std.specs.Prelude.{◌≡◌, ℕ, ◌^◌, ◌<◌, List, [], ◌∷◌, length, Bool, true, false, ◌==◌, ◌&&◌, nat_lt}
use Rattle.xf_type.specs.declared.payload_type.PayloadType.{PayloadType}
use Rattle.xf_type.specs.declared.payload_type.PayloadType.TheVariants as type_of
use Rattle.xf_type.specs.declared.payload_type.Width.{Width}
use Rattle.xf_type.specs.declared.payload_type.Elem.{Elem}
use Rattle.xf_type.specs.declared.payload_type.Elem.TheVariants.{Num, NoNumber}
use Rattle.xf_type.specs.declared.payload_type.Dim.{Dim}
use Rattle.xf_type.specs.declared.payload_type.Dim.TheVariants.{Fixed, Dynamic}
use Rattle.xf_type.specs.Equal.{same_width}
use Rattle.xf_type.specs.Integers.{bits_of, FitsWidth}
use Rattle.xf_ir.specs.Lists.{Each, every}
use Rattle.xf_points.specs.Points.{product}
use Rattle.xf_sem.specs.declared.value.Value.{Value}
use Rattle.xf_sem.specs.declared.value.Value.TheVariants.{Scalar, Tensor}

-- numbers are below 2 ^ bits of the width, sizes below 2 ^ 31, and there are as many elements as the product of the
-- sizes
abbrev pub IsValue : Value → Type 0
IsValue (Scalar width elem) = FitsWidth width elem
IsValue (Tensor width shape elems) =
    Each (λ size. size < 2 ^ 31) shape × ((length elems ≡ product shape) × Each (FitsWidth width) elems)

-- a dynamic dimension takes any size
abbrev pub FitsDim : ℕ → Dim → Type 0
FitsDim size (Fixed extent) = size ≡ extent
FitsDim size Dynamic = Unit {0}

abbrev pub FitsDims : List ℕ → List Dim → Type 0
FitsDims [] [] = Unit {0}
FitsDims [] (d ∷ ds) = ⊥
FitsDims (size ∷ sizes) [] = ⊥
FitsDims (size ∷ sizes) (d ∷ ds) = FitsDim size d × FitsDims sizes ds

-- width, rank and fixed sizes agree
abbrev pub FitsType : Value → PayloadType → Type 0
FitsType (Scalar width elem) (type_of.Scalar wanted) = width ≡ wanted
FitsType (Scalar width elem) (type_of.Tensor wanted) = ⊥
FitsType (Tensor width shape elems) (type_of.Scalar wanted) = ⊥
FitsType (Tensor width shape elems) (type_of.Tensor wanted) = (width ≡ wanted.elem) × FitsDims shape wanted.dims

-- values of these types, one of each
abbrev pub FitTypes : List Value → List PayloadType → Type 0
FitTypes [] [] = Unit {0}
FitTypes [] (t ∷ ts) = ⊥
FitTypes (v ∷ vs) [] = ⊥
FitTypes (v ∷ vs) (t ∷ ts) = (IsValue v × FitsType v t) × FitTypes vs ts

-- ---- the same as tests

abbrev pub fits_width : Width → Elem → Bool
fits_width width (Num n) = nat_lt n (2 ^ bits_of width)
fits_width width NoNumber = true

abbrev pub is_value : Value → Bool
is_value (Scalar width elem) = fits_width width elem
is_value (Tensor width shape elems) =
    every (λ size. nat_lt size (2 ^ 31)) shape && ((length elems == product shape) && every (fits_width width) elems)

abbrev pub fits_dim : ℕ → Dim → Bool
fits_dim size (Fixed extent) = size == extent
fits_dim size Dynamic = true

abbrev pub fits_dims : List ℕ → List Dim → Bool
fits_dims [] [] = true
fits_dims [] (d ∷ ds) = false
fits_dims (size ∷ sizes) [] = false
fits_dims (size ∷ sizes) (d ∷ ds) = fits_dim size d && fits_dims sizes ds

abbrev pub fits_type : Value → PayloadType → Bool
fits_type (Scalar width elem) (type_of.Scalar wanted) = same_width width wanted
fits_type (Scalar width elem) (type_of.Tensor wanted) = false
fits_type (Tensor width shape elems) (type_of.Scalar wanted) = false
fits_type (Tensor width shape elems) (type_of.Tensor wanted) =
    same_width width wanted.elem && fits_dims shape wanted.dims

abbrev pub fit_types : List Value → List PayloadType → Bool
fit_types [] [] = true
fit_types [] (t ∷ ts) = false
fit_types (v ∷ vs) [] = false
fit_types (v ∷ vs) (t ∷ ts) = (is_value v && fits_type v t) && fit_types vs ts
