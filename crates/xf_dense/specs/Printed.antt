-- The nested lists of numbers, as they are printed: a list for each dimension, the outermost first.
use Rattle.std.specs.Prelude.{⊤, ℕ, zero, suc, ◌-◌, ◌*◌, ◌/◌, ◌<◌, List, [], ◌∷◌, length, take, drop, true, false}
use Rattle.std.specs.Prelude.{not, ◌==◌, ℤ, pos, negsuc}
use Rattle.std.specs.Fmt.{decimal}
use Rattle.xf_type.specs.declared.payload_type.Dim.{Dim}
use Rattle.xf_type.specs.declared.payload_type.Dim.TheVariants.{Fixed, Dynamic}
use Rattle.xf_type.specs.declared.payload_type.Width.{Width}
use Rattle.xf_type.specs.declared.payload_type.Width.TheVariants.{I1}
use Rattle.xf_type.specs.Integers.{signed_value}
use Rattle.xf_dense.specs.Nests.{LiteralToken, truth, integer, Nest, Nests, leaf, list, last, next}

abbrev pub signed_literal : ℤ → LiteralToken
signed_literal (pos n) = integer false (decimal n)
signed_literal (negsuc n) = integer true (decimal (suc n))

-- a number of a width: its sign and decimal digits; of i1 true or false
abbrev pub literal_of : Width → ℕ → LiteralToken
literal_of I1 bits = truth (not (bits == 0))
literal_of width bits = signed_literal (signed_value width bits)

abbrev pub first_number : List ℕ → ℕ
first_number [] = 0
first_number (n ∷ ns) = n

-- one item for each of some rows of that many numbers, and one of what is left
abbrev pub row_nests : (List ℕ → Nest) → ℕ → ℕ → List ℕ → Nests
row_nests item zero size ns = last (item ns)
row_nests item (suc rows) size ns = next (item (take size ns)) (row_nests item rows size (drop size ns))

-- one row for each of the outermost dimension
abbrev pub nest_of : Width → List Dim → List ℕ → Nest
nest_of width [] ns = leaf (literal_of width (first_number ns))
nest_of width (Fixed extent ∷ ds) ns = list (row_nests (nest_of width ds) (extent - 1) (length ns / extent) ns)
nest_of width (Dynamic ∷ ds) ns = nest_of width ds ns

-- how many elements there are
abbrev pub element_count : List ℕ → ℕ
element_count [] = 1
element_count (n ∷ extents) = n * element_count extents

abbrev pub AllPositive : List ℕ → Type 0
AllPositive [] = ⊤
AllPositive (n ∷ extents) = (0 < n) × AllPositive extents
