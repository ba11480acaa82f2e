-- Attributes, and the ranges of types.
use Rattle.std.specs.Prelude.{ℕ, ◌*◌, ◌^◌, List, [], ◌∷◌, length, Option, Some, None, Bool, true}
use Rattle.std.specs.Prelude.{not, ◌==◌, ◌&&◌, ◌||◌, nat_lt, nat_le, if◌then◌else◌}
use Rattle.xf_type.specs.declared.payload_type.PayloadType.{PayloadType}
use Rattle.xf_type.specs.declared.payload_type.Shape.{Shape}
use Rattle.xf_type.specs.declared.payload_type.Dim.{Dim}
use Rattle.xf_type.specs.declared.payload_type.Dim.TheVariants.{Fixed, Dynamic}
use Rattle.xf_type.specs.declared.payload_type.Width.{Width}
use Rattle.xf_type.specs.declared.payload_type.Width.TheVariants.{Index}
use Rattle.xf_type.specs.declared.attribute.AttrValue.{AttrValue}
use Rattle.xf_type.specs.declared.attribute.AttrValue.TheVariants.{Unit as unit_attr, Int, Text}
use Rattle.xf_type.specs.declared.kind.ConvKind.{ConvKind}
use Rattle.xf_type.specs.declared.kind.ConvKind.TheVariants.{Extsi, Extui, Trunci, IndexCast, IndexCastui}
use Rattle.xf_type.specs.Integers.{bits_of}
use Rattle.xf_ir.specs.declared.kind.Kind.{Kind}
use Rattle.xf_ir.specs.declared.kind.Kind.TheVariants as kind
use Rattle.xf_ir.specs.declared.kind.Attr.{Attr}
use Rattle.xf_ir.specs.Kinds.{returned_types}
use Rattle.xf_ir.specs.Lists.{every, is_empty}
use Rattle.xf_ir.specs.Words.{is_word}
use Rattle.xf_ir.specs.Attributes.{bytes_before}
use Rattle.xf_type.specs.Equal.{same_width}
use Rattle.xf_ir.specs.Types.{is_dynamic, dims_of, rank_of}
use Rattle.xf_ir.specs.RuleBlocks.{block_args}
use Rattle.xf_ir.specs.Placed.{Placed}

-- ---- V7: symbols and names of discardable attributes are words, the latter different within one operation; numbers
-- ---- are below 2 ^ bits; the attributes of the kind fit

abbrev pub fits_bits : Width → ℕ → Bool
fits_bits w n = nat_lt n (2 ^ bits_of w)

abbrev pub value_fits : AttrValue → Bool
value_fits unit_attr = true
value_fits (Int width bits) = fits_bits width bits
value_fits (Text bytes) = true

-- discardable attributes: each name is a word and comes before those of all later ones, and each value fits
abbrev pub attributes_fit : List Attr → Bool
attributes_fit [] = true
attributes_fit (d ∷ ds) =
    (is_word d.name && value_fits d.value)
    && (every (λ (e : Attr). bytes_before d.name e.name) ds && attributes_fit ds)

-- the number of elements of a tensor whose dimensions are fixed
abbrev pub element_count : List Dim → ℕ
element_count [] = 1
element_count (Fixed extent ∷ ds) = extent * element_count ds
element_count (Dynamic ∷ ds) = element_count ds

abbrev pub all_equal : List ℕ → Bool
all_equal [] = true
all_equal (x ∷ xs) = every (λ y. y == x) xs

-- the numbers of so many elements: none for none, the one number of all, or one for each where they are not all equal
abbrev pub numbers_of : ℕ → List ℕ → Bool
numbers_of count ns =
    if count == 0 then is_empty ns else ((length ns == 1) || ((length ns == count) && not (all_equal ns)))

-- a dense constant has a fixed shape of at most 1,048,576 elements
abbrev pub dense_fits : Shape → List ℕ → Bool
dense_fits s ns =
    every (λ d. not (is_dynamic d)) s.dims
    && (nat_le (element_count s.dims) 1048576 && (numbers_of (element_count s.dims) ns && every (fits_bits s.elem) ns))

abbrev pub is_index : Width → Bool
is_index w = same_width w Index

-- whether the first is narrower than the second and neither is index
abbrev pub is_narrower : Width → Width → Bool
is_narrower a b = nat_lt (bits_of a) (bits_of b) && (not (is_index a) && not (is_index b))

-- whether one of the two is index and the other is not
abbrev pub has_one_index : Width → Width → Bool
has_one_index a b = (is_index a && not (is_index b)) || (not (is_index a) && is_index b)

abbrev pub conversion_fits : ConvKind → Width → Width → Bool
conversion_fits Extsi from to = is_narrower from to
conversion_fits Extui from to = is_narrower from to
conversion_fits Trunci from to = is_narrower to from
conversion_fits IndexCast from to = has_one_index from to
conversion_fits IndexCastui from to = has_one_index from to

abbrev pub is_word_or_none : Option (List ℕ) → Bool
is_word_or_none None = true
is_word_or_none (Some s) = is_word s

-- the attributes that belong to the kind
abbrev pub kind_fits : Kind → Bool
kind_fits (kind.Module symbol) = is_word_or_none symbol
kind_fits (kind.Func symbol private results) = is_word symbol
kind_fits (kind.Call callee) = is_word callee
kind_fits (kind.Constant width bits) = fits_bits width bits
kind_fits (kind.Dense shape numbers) = dense_fits shape numbers
kind_fits (kind.Convert which from to) = conversion_fits which from to
kind_fits _ = true

abbrev pub has_its_attributes : Placed → Bool
has_its_attributes p = kind_fits p.tree.kind && attributes_fit p.tree.attrs

-- ---- V15: ranks are at most 8, fixed dimensions below 2 ^ 31

abbrev pub dim_fits : Dim → Bool
dim_fits (Fixed extent) = nat_lt extent (2 ^ 31)
dim_fits Dynamic = true

abbrev pub type_fits : PayloadType → Bool
type_fits t = nat_le (rank_of t) 8 && every dim_fits (dims_of t)

-- the types of its results, of its block arguments and, for a function, of what it returns
abbrev pub has_types_in_range : Placed → Bool
has_types_in_range p =
    every type_fits p.tree.results
    && (every type_fits (returned_types p.tree.kind) && every (every type_fits) (block_args p.tree.regions))
