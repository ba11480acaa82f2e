-- What holds of the texts of all tensor types.
use Rattle.std.specs.Prelude.{◌≡◌, ⊤, ℕ, ◌^◌, ◌<◌, List, [], ◌∷◌, Some, true, nat_lt}
use Rattle.std.specs.List.{list_all}
use Rattle.xf_type.specs.declared.payload_type.Dim.{Dim}
use Rattle.xf_type.specs.declared.payload_type.Dim.TheVariants.{Fixed, Dynamic}
use Rattle.xf_type.specs.declared.payload_type.Shape.{Shape}
use Rattle.xf_lex.specs.declared.token.TokenKind.TheVariants as kind
use Rattle.xf_lex.specs.Layout.{Plain, Stays}
use Rattle.xf_shape.specs.Shapes.{shape_of}
use Rattle.xf_shape.specs.Written.{shape_text}

-- an extent is a number of 32 bits
abbrev pub IsStoredDim : Dim → Type 0
IsStoredDim (Fixed n) = n < 2 ^ 32
IsStoredDim Dynamic = ⊤

abbrev pub AreStored : List Dim → Type 0
AreStored [] = ⊤
AreStored (d ∷ ds) = IsStoredDim d × AreStored ds

-- a tensor type is what its text means
abbrev pub ShapesAreReadAgain : Type 0
ShapesAreReadAgain = (s : Shape) → AreStored s.dims → shape_of (shape_text s) ≡ Some s

abbrev pub shape_token : Shape → Plain
shape_token s = record { kind = kind.Shape; bytes = shape_text s }

-- behind the word tensor its text is one token, whatever stands behind it
abbrev pub ShapesStay : Type 0
ShapesStay = (s : Shape) (rest : List ℕ) → AreStored s.dims → Stays true (shape_token s) rest

-- and it is ASCII
abbrev pub ShapesAreAscii : Type 0
ShapesAreAscii = (s : Shape) → AreStored s.dims → list_all (λ b. nat_lt b 128) (shape_text s) ≡ true
