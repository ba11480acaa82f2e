-- What a head means by what it says in bytes: the kind of the operation, and its attributes.
use Rattle.std.specs.Prelude.{ℕ, List, [], ◌∷◌, drop, Option, Some, None, slice_get}
use Rattle.std.specs.Option.{option_map}
use Rattle.std.specs.Ordering.{nat_cmp, match_ordering}
use Rattle.std.specs.Cmp.Lexicographic.{slice_cmp}
use Rattle.xf_type.specs.declared.attribute.AttrValue.{AttrValue}
use Rattle.xf_type.specs.declared.attribute.AttrValue.TheVariants as attr
use Rattle.xf_type.specs.declared.kind.CmpKind.{CmpKind}
use Rattle.xf_type.specs.declared.kind.CmpKind.TheVariants as cmp
use Rattle.xf_type.specs.declared.payload_type.PayloadType.{PayloadType}
use Rattle.xf_type.specs.declared.payload_type.PayloadType.TheVariants.{Scalar, Tensor}
use Rattle.xf_type.specs.declared.payload_type.Shape.{Shape}
use Rattle.xf_type.specs.declared.payload_type.Width.{Width}
use Rattle.xf_type.specs.declared.payload_type.Width.TheVariants.{I1, Index}
use Rattle.xf_type.specs.Integers.{wrapped}
use Rattle.xf_grammar.specs.Tokens.{number_of}
use Rattle.xf_format.specs.declared.row.Row.{Row}
use Rattle.xf_format.specs.declared.row.Row.TheVariants as row
use Rattle.xf_dense.specs.Actions.{SaidBody}
use Rattle.xf_format.specs.Parts.{LiteralSaid, truth, number, elements, ValueSaid, no_value, truth_value, number_value}
use Rattle.xf_format.specs.Parts.{text_value}
use Rattle.xf_format.specs.Parts.{EntrySaid, Said}
use Rattle.xf_format.specs.Strings.{decoded}
use Rattle.xf_ir.specs.declared.kind.Attr.{Attr}
use Rattle.xf_ir.specs.declared.kind.Kind.{Kind}
use Rattle.xf_ir.specs.declared.kind.Kind.TheVariants as kind
use Rattle.xf_read_base.specs.Elements.{shape_at, numbers_meant}
pub use Rattle.xf_read_base.specs.Numbers.{signed, truth_bits, integer_bits}
use Rattle.xf_read_base.specs.Structured.{Aliases, window_meant, maps_meant}

-- ---- literals

abbrev pub bits_said : Width → Option LiteralSaid → ℕ
bits_said w None = 0
bits_said w (Some (truth b)) = truth_bits b
bits_said w (Some (number negative digits)) = integer_bits w negative (number_of digits)
bits_said w (Some elements) = 0

-- ---- attributes

abbrev pub attr_value : ValueSaid → AttrValue
attr_value no_value = attr.Unit
attr_value (truth_value b) = attr.Int I1 (truth_bits b)
attr_value (number_value negative digits w) = attr.Int w (wrapped w (signed negative (number_of digits)))
attr_value (text_value quoted) = attr.Text (decoded quoted)

abbrev pub attr_said : EntrySaid → Attr
attr_said e = record { name = e.name; value = attr_value e.value }

-- with an attribute at its place by the bytes of the names, instead of one of its name
abbrev pub with_attr : Attr → List Attr → List Attr
with_attr a [] = a ∷ []
with_attr a (b ∷ bs) =
    match_ordering (slice_cmp nat_cmp a.name b.name) (a ∷ b ∷ bs) (record { name = b.name; value = a.value } ∷ bs)
    (b ∷ with_attr a bs)

abbrev pub with_said : List EntrySaid → List Attr → List Attr
with_said [] attrs = attrs
with_said (e ∷ es) attrs = with_said es (with_attr (attr_said e) attrs)

-- the attributes, sorted by the bytes of their names
abbrev pub attrs_said : List EntrySaid → List Attr
attrs_said es = with_said es []

-- ---- kinds

-- the word of a symbol, behind its @
abbrev pub word_said : Option (List ℕ) → List ℕ
word_said None = []
word_said (Some symbol) = drop 1 symbol

abbrev pub width_of : Option PayloadType → Width
width_of None = Index
width_of (Some (Scalar w)) = w
width_of (Some (Tensor s)) = s.elem

-- the width that is stated at a number
abbrev pub width_at : List PayloadType → ℕ → Width
width_at ts i = width_of (slice_get ts i)

abbrev pub predicate_or : Option CmpKind → CmpKind
predicate_or None = cmp.Eq
predicate_or (Some k) = k

abbrev pub dense_said : Shape → SaidBody → Kind
dense_said s b = kind.Dense s (numbers_meant s.elem b)

-- a constant is a tensor where it has a body
abbrev pub constant_said : List PayloadType → SaidBody → Option LiteralSaid → Kind
constant_said ts b None = kind.Constant (width_at ts 0) (bits_said (width_at ts 0) None)
constant_said ts b (Some elements) = dense_said (shape_at ts 0) b
constant_said ts b (Some l) = kind.Constant (width_at ts 0) (bits_said (width_at ts 0) (Some l))

-- the kind of an operation, by what the aliases of maps stand for
abbrev pub kind_said : Aliases → Row → Said → Kind
kind_said aliases row.Module t = kind.Module (option_map (drop 1) t.symbol)
kind_said aliases row.Function t = kind.Func (word_said t.symbol) t.private t.results
kind_said aliases row.Return t = kind.Return
kind_said aliases row.Call t = kind.Call (word_said t.symbol)
kind_said aliases row.Constant t = constant_said t.types t.dense t.literal
kind_said aliases (row.Binary k) t = kind.Binary k (width_at t.types 0)
kind_said aliases row.Compare t = kind.Compare (predicate_or t.predicate) (width_at t.types 0)
kind_said aliases row.Select t = kind.Select (width_at t.types 0)
kind_said aliases (row.Convert k) t = kind.Convert k (width_at t.types 0) (width_at t.types 1)
kind_said aliases row.For t = kind.For (width_at t.types 0)
kind_said aliases row.If t = kind.If
kind_said aliases row.Yield t = kind.Yield
kind_said aliases row.Empty t = kind.Empty
kind_said aliases row.Dim t = kind.Dim
kind_said aliases row.Extract t = kind.Extract
kind_said aliases row.Insert t = kind.Insert
kind_said aliases row.ExtractSlice t = kind.ExtractSlice (window_meant t.offsets) (window_meant t.sizes)
kind_said aliases row.InsertSlice t = kind.InsertSlice (window_meant t.offsets) (window_meant t.sizes)
kind_said aliases row.Cast t = kind.Cast
kind_said aliases (row.Named k) t = kind.Named k
kind_said aliases row.Generic t = kind.Generic (maps_meant aliases t.maps) t.iterators
kind_said aliases row.LinalgYield t = kind.LinalgYield
