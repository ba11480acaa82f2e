-- The numbers of a dense constant (MLIR: DenseIntOrFPElementsAttr).
use Rattle.std.specs.Prelude.{ℕ, List, [], ◌∷◌, map, ◌==◌, Option, Some, None, if◌then◌else◌, slice_get}
use Rattle.std.specs.List.{list_all}
use Rattle.xf_type.specs.declared.payload_type.PayloadType.{PayloadType}
use Rattle.xf_type.specs.declared.payload_type.PayloadType.TheVariants.{Scalar, Tensor}
use Rattle.xf_type.specs.declared.payload_type.Shape.{Shape}
use Rattle.xf_type.specs.declared.payload_type.Width.{Width}
use Rattle.xf_type.specs.declared.payload_type.Width.TheVariants.{Index}
use Rattle.xf_grammar.specs.Tokens.{number_of}
use Rattle.xf_dense.specs.Actions.{SaidBody}
use Rattle.xf_dense.specs.Nests.{LiteralToken, truth, integer}
use Rattle.xf_read_base.specs.Numbers.{truth_bits, integer_bits}

-- the number of an element, as that of a scalar of its width
abbrev pub element_bits : Width → LiteralToken → ℕ
element_bits w (truth b) = truth_bits b
element_bits w (integer negative digits) = integer_bits w negative (number_of digits)

-- the number that all are, where there is one
abbrev pub common : List ℕ → Option ℕ
common [] = None
common (n ∷ ns) = if list_all (λ k. k == n) ns then Some n else None

abbrev pub one_or : List ℕ → Option ℕ → List ℕ
one_or ns None = ns
one_or ns (Some n) = n ∷ []

-- one number where all are equal, and all of them else
abbrev pub shortened : List ℕ → List ℕ
shortened ns = one_or ns (common ns)

-- the numbers of a body, in the order of the text
abbrev pub numbers_meant : Width → SaidBody → List ℕ
numbers_meant w b = shortened (map (element_bits w) b.literals)

-- ---- the type of the constant

abbrev pub shape_or : Option PayloadType → Shape
shape_or None = record { dims = []; elem = Index }
shape_or (Some (Scalar w)) = record { dims = []; elem = w }
shape_or (Some (Tensor s)) = s

-- the shape that is stated at a number
abbrev pub shape_at : List PayloadType → ℕ → Shape
shape_at ts i = shape_or (slice_get ts i)
