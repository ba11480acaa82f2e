-- How the types of operands, which tests borrow, are seen.
use Rattle.std.specs.Prelude.{List, [], ◌∷◌, Option, Some, None, Bool}
use denote.Ref.{Bor}
use Rattle.xf_type.specs.declared.payload_type.PayloadType.{PayloadType}
use Rattle.xf_type.specs.declared.payload_type.PayloadType.TheVariants.{Scalar}
use Rattle.xf_type.specs.declared.payload_type.Width.{Width}
use Rattle.xf_type.specs.declared.payload_type.Width.TheVariants.{Index}
use Rattle.xf_ir.specs.Types.{has_type}

-- the type of an operand, none where the operand is not visible
abbrev pub operand_type : Option (Bor PayloadType) → Option PayloadType
operand_type None = None
operand_type (Some t) = Some t.now

abbrev pub operand_types : List (Option (Bor PayloadType)) → List (Option PayloadType)
operand_types [] = []
operand_types (o ∷ os) = operand_type o ∷ operand_types os

-- the scalar types of some widths
abbrev pub scalars : List Width → List PayloadType
scalars [] = []
scalars (w ∷ ws) = Scalar w ∷ scalars ws

-- whether an operand is visible and has the type index
abbrev pub is_index_type : Option PayloadType → Bool
is_index_type o = has_type o (Scalar Index)
