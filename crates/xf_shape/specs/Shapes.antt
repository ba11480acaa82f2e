-- The tensor type that a shape token writes: dimensions, each with an x behind it, and a width (MLIR: the builtin
-- types, RankedTensorType).
use Rattle.std.specs.Prelude.{ℕ, zero, suc, ◌-◌, ◌^◌, min, List, [], ◌∷◌, length, take, drop, Option, Some, None}
use Rattle.std.specs.Prelude.{◌==◌, ◌&&◌, if◌then◌else◌, is_some}
use Rattle.std.specs.Str.Parse.{digits_value}
use Rattle.xf_type.specs.Bytes.{is_digit, is_letter, is_word_byte}
use Rattle.xf_type.specs.declared.payload_type.Dim.{Dim}
use Rattle.xf_type.specs.declared.payload_type.Dim.TheVariants.{Fixed, Dynamic}
use Rattle.xf_type.specs.declared.payload_type.Shape.{Shape}
use Rattle.xf_type.specs.declared.payload_type.Width.{Width}
use Rattle.xf_lex.specs.Bytes.{run, starts}
use Rattle.xf_shape.specs.TypeWords.{type_number}
use Rattle.xf_shape.specs.Widths.{lookup, widths}

-- ---- dimensions

-- an extent above 2 ^ 32 - 1 is 2 ^ 32 - 1
abbrev pub extent_of : List ℕ → ℕ
extent_of digits = min (digits_value 10 digits) (2 ^ 32 - 1)

-- a dimension that bytes begin with, and what stands behind it
pub record DimFirst : Type 0 where
  pub dim : Dim
  pub rest : List ℕ

-- a dimension, where the x stands behind it
abbrev pub before_x : Dim → List ℕ → Option DimFirst
before_x d [] = None
before_x d (b ∷ bs) = if b == 120 then Some (record { dim = d; rest = bs }) else None

-- a ? or digits, and an x
abbrev pub dim_first : List ℕ → Option DimFirst
dim_first [] = None
dim_first (b ∷ bs) =
    if b == 63 then before_x Dynamic bs
    else (if is_digit b then before_x (Fixed (extent_of (b ∷ take (run is_digit bs) bs))) (drop (run is_digit bs) bs)
    else None)

-- dimensions that bytes begin with, and what stands behind them
pub record DimsFirst : Type 0 where
  pub dims : List Dim
  pub rest : List ℕ

abbrev pub more_dims : (List ℕ → DimsFirst) → List ℕ → Option DimFirst → DimsFirst
more_dims inner bs None = record { dims = []; rest = bs }
more_dims inner bs (Some x) = record { dims = x.dim ∷ (inner x.rest).dims; rest = (inner x.rest).rest }

-- n of them at most
abbrev pub some_dims : ℕ → List ℕ → DimsFirst
some_dims zero bs = record { dims = []; rest = bs }
some_dims (suc n) bs = more_dims (some_dims n) bs (dim_first bs)

-- all of them: there are no more than bytes
abbrev pub dims_first : List ℕ → DimsFirst
dims_first bs = some_dims (length bs) bs

-- ---- shapes

-- what stands between the < and the > of a shape token
abbrev pub inside_marks : List ℕ → List ℕ
inside_marks bs = take (length bs - 2) (drop 1 bs)

abbrev pub with_width : List Dim → Option Width → Option Shape
with_width ds None = None
with_width ds (Some w) = Some (record { dims = ds; elem = w })

-- dimensions and a width
abbrev pub shape_of : List ℕ → Option Shape
shape_of bs =
    let x = dims_first (inside_marks bs) in
    with_width x.dims (lookup widths x.rest)

-- ---- shapes that are not supported

-- the word that bytes begin with
abbrev pub word_first : List ℕ → List ℕ
word_first [] = []
word_first (b ∷ bs) = if is_letter b then b ∷ take (run is_word_byte bs) bs else []

-- in the place of a width: another type, or a width and the comma before an encoding
abbrev pub element_number : List ℕ → Option ℕ
element_number bs =
    let w = word_first bs in
    if is_some (lookup widths w) && starts 44 (drop (length w) bs) then Some 17 else type_number w

-- the number of the form of MLIR that stands between the marks, the leftmost where there are several: a * for
-- dimensions that are not known, or what stands in the place of a width
abbrev pub shape_number : List ℕ → Option ℕ
shape_number bs = if starts 42 bs then Some 17 else element_number (dims_first bs).rest
