-- What holds of the table of the integers, in its own words.
use Rattle.std.specs.Prelude.{◌≡◌, ℕ, ◌-◌, ◌^◌, ◌<◌, ◌≤◌, ℤ, pos, neg_ℤ, ◌<ℤ◌, ◌≤ℤ◌}
use Rattle.xf_type.specs.declared.payload_type.Width.{Width}
use Rattle.xf_type.specs.declared.payload_type.Width.TheVariants.{I1}
use Rattle.xf_type.specs.declared.payload_type.Elem.{Elem}
use Rattle.xf_type.specs.declared.kind.BinKind.{BinKind}
use Rattle.xf_type.specs.declared.kind.CmpKind.{CmpKind}
use Rattle.xf_type.specs.declared.kind.ConvKind.{ConvKind}
use Rattle.xf_type.specs.declared.kind.ConvKind.TheVariants.{Extsi, Extui, Trunci, IndexCast, IndexCastui}
use Rattle.xf_type.specs.declared.kind.Combiner.{Combiner}
use Rattle.xf_type.specs.Integers.{FitsWidth, bits_of, wrapped, signed_value, binary}
use Rattle.xf_type.specs.Integers.{compared, converted, selected, combined}

-- ---- the two readings of a number

-- an integer that the width has as a signed number
abbrev pub IsSigned : Width → ℤ → Type 0
IsSigned w z = (neg_ℤ (pos (2 ^ (bits_of w - 1))) ≤ℤ z) × (z <ℤ pos (2 ^ (bits_of w - 1)))

abbrev pub WrappedFits : Type 0
WrappedFits = (w : Width) (z : ℤ) → wrapped w z < 2 ^ bits_of w

abbrev pub SignedValueFits : Type 0
SignedValueFits = (w : Width) (n : ℕ) → n < 2 ^ bits_of w → IsSigned w (signed_value w n)

abbrev pub WrappedReturns : Type 0
WrappedReturns = (w : Width) (z : ℤ) → IsSigned w z → signed_value w (wrapped w z) ≡ z

abbrev pub SignedValueReturns : Type 0
SignedValueReturns = (w : Width) (n : ℕ) → n < 2 ^ bits_of w → wrapped w (signed_value w n) ≡ n

-- ---- results are elements of their width

abbrev pub BinaryFits : Type 0
BinaryFits = (k : BinKind) (w : Width) (a b : Elem) → FitsWidth w a → FitsWidth w b → FitsWidth w (binary k w a b)

abbrev pub ComparedFits : Type 0
ComparedFits = (k : CmpKind) (w : Width) (a b : Elem) → FitsWidth I1 (compared k w a b)

abbrev pub ConvertedFits : Type 0
ConvertedFits = (k : ConvKind) (from to : Width) (a : Elem) → FitsWidth to (converted k from to a)

abbrev pub SelectedFits : Type 0
SelectedFits = (w : Width) (c a b : Elem) → FitsWidth w a → FitsWidth w b → FitsWidth w (selected c a b)

abbrev pub CombinedFits : Type 0
CombinedFits = (c : Combiner) (w : Width) (a b : Elem) → FitsWidth w a → FitsWidth w b → FitsWidth w (combined c w a b)

-- ---- the order in which a reduction joins its elements is free

abbrev pub CombinedCommutes : Type 0
CombinedCommutes = (c : Combiner) (w : Width) (x y : Elem) → combined c w x y ≡ combined c w y x

abbrev pub CombinedAssociates : Type 0
CombinedAssociates =
    (c : Combiner) (w : Width) (x y z : Elem) →
    FitsWidth w x → FitsWidth w y → FitsWidth w z →
    combined c w (combined c w x y) z ≡ combined c w x (combined c w y z)

-- ---- a conversion to a width of as many bits or more, and back, gives the element again

-- `k` leads to the width and `back` leads back
abbrev pub Returns : ConvKind → ConvKind → Type 0
Returns k back =
    (from to : Width) (a : Elem) → bits_of from ≤ bits_of to → FitsWidth from a →
    converted back to from (converted k from to a) ≡ a

abbrev pub ExtensionReturns : Type 0
ExtensionReturns = Returns Extsi Trunci × Returns Extui Trunci

abbrev pub IndexCastReturns : Type 0
IndexCastReturns = Returns IndexCast IndexCast × Returns IndexCastui IndexCastui
