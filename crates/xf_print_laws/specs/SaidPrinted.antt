-- What the printed heads of a module say.
use Rattle.std.specs.Prelude.{ℕ, zero, suc, List, [], ◌∷◌, ◌++◌, map, Option, Some, None, Bool, option_map}
use Rattle.std.specs.Prelude.{if◌then◌else◌, ℤ}
use Rattle.xf_type.specs.declared.attribute.AttrValue.{AttrValue}
use Rattle.xf_type.specs.declared.attribute.AttrValue.TheVariants as attr
use Rattle.xf_type.specs.declared.kind.CmpKind.{CmpKind}
use Rattle.xf_type.specs.declared.payload_type.PayloadType.{PayloadType}
use Rattle.xf_type.specs.declared.payload_type.Dim.{Dim}
use Rattle.xf_type.specs.declared.payload_type.Dim.TheVariants.{Fixed, Dynamic}
use Rattle.xf_type.specs.declared.payload_type.PayloadType.TheVariants.{Scalar, Tensor}
use Rattle.xf_type.specs.declared.payload_type.Shape.{Shape}
use Rattle.xf_type.specs.declared.payload_type.Width.{Width}
use Rattle.xf_type.specs.declared.payload_type.Width.TheVariants.{I1}
use Rattle.xf_type.specs.Integers.{signed_value}
use Rattle.xf_format.specs.declared.row.Row.{Row}
use Rattle.xf_format.specs.declared.row.Row.TheVariants as row
use Rattle.xf_format.specs.Parts.{LiteralSaid, truth, number, ValueSaid, no_value, truth_value, number_value}
use Rattle.xf_format.specs.Parts.{text_value, EntrySaid, Said, elements, PlaceSaid, place_number, place_value}
use Rattle.xf_format.specs.Parts.{MapSaid, written_map, no_map}
use Rattle.xf_dense.specs.Actions.{SaidBody, no_body_said}
use Rattle.xf_dense.specs.Printed.{literal_of}
use Rattle.xf_ir.specs.declared.kind.Attr.{Attr}
use Rattle.xf_ir.specs.declared.kind.Kind.{Kind}
use Rattle.xf_ir.specs.declared.kind.SliceIndex.{SliceIndex}
use Rattle.xf_ir.specs.declared.kind.SliceIndex.TheVariants as index
use Rattle.xf_ir.specs.declared.kind.Kind.TheVariants as kind
use Rattle.xf_ir.specs.declared.name.ValueName.{ValueName}
use Rattle.xf_ir.specs.declared.op.Module.{Module}
use Rattle.xf_ir.specs.Tree.{Ops, no_ops, op, Regions, no_regions, region, Tree}
use Rattle.xf_ir.specs.Placed.{functions_of}
use Rattle.xf_grammar.specs.Tree.{SaidNodes, no_nodes_said, node_said, SaidBodies, no_bodies_said, body_said}
use Rattle.xf_printed.specs.Attributes.{string_text}
use Rattle.xf_printed.specs.Fills.{has_minus, digits_of, is_set, symbol_printed, is_private}
use Rattle.xf_printed.specs.Names.{Names, no_names, with_ops, first_args, number_of, first_of, type_of}
use Rattle.xf_printed.specs.PrintedForm.{is_empty_yield}
use Rattle.xf_printed.specs.Structured.{offsets_of, sizes_of, maps_of, iterators_of}
use Rattle.xf_print_laws.specs.Naming.{use_printed, defines_printed, arguments_printed}

-- ---- numbers

-- a sign, and digits
abbrev pub signed_said : {A : Type 0} → (Bool → List ℕ → A) → ℤ → A
signed_said say z = say (has_minus z) (digits_of z)

abbrev pub literal_printed : Width → ℕ → LiteralSaid
literal_printed I1 bits = truth (is_set bits)
literal_printed width bits = signed_said number (signed_value width bits)

-- ---- attributes

abbrev pub integer_printed : Width → ℕ → ValueSaid
integer_printed I1 bits = truth_value (is_set bits)
integer_printed width bits =
    signed_said (λ negative digits. number_value negative digits width) (signed_value width bits)

abbrev pub value_printed : AttrValue → ValueSaid
value_printed attr.Unit = no_value
value_printed (attr.Int width bits) = integer_printed width bits
value_printed (attr.Text bytes) = text_value (string_text bytes)

abbrev pub entry_printed : Attr → EntrySaid
entry_printed d = record { name = d.name; value = value_printed d.value }

-- ---- kinds

abbrev pub row_of : Kind → Row
row_of (kind.Func symbol private results) = row.Function
row_of kind.Return = row.Return
row_of (kind.Call callee) = row.Call
row_of (kind.Constant width bits) = row.Constant
row_of (kind.Binary which width) = row.Binary which
row_of (kind.Compare which width) = row.Compare
row_of (kind.Select width) = row.Select
row_of (kind.Convert which from to) = row.Convert which
row_of (kind.For width) = row.For
row_of kind.If = row.If
row_of kind.Yield = row.Yield
row_of kind.Empty = row.Empty
row_of kind.Dim = row.Dim
row_of kind.Extract = row.Extract
row_of kind.Insert = row.Insert
row_of kind.Cast = row.Cast
row_of (kind.Named which) = row.Named which
row_of (kind.Dense shape numbers) = row.Constant
row_of (kind.ExtractSlice offsets sizes) = row.ExtractSlice
row_of (kind.InsertSlice offsets sizes) = row.InsertSlice
row_of (kind.Generic maps iterators) = row.Generic
row_of kind.LinalgYield = row.LinalgYield
row_of (kind.Module symbol) = row.Module

-- with its @
abbrev pub symbol_said : Kind → Option (List ℕ)
symbol_said k = option_map (λ s. 64 ∷ s) (symbol_printed k)

abbrev pub predicate_printed : Kind → Option CmpKind
predicate_printed (kind.Compare which width) = Some which
predicate_printed _ = None

abbrev pub constant_printed : Kind → Option LiteralSaid
constant_printed (kind.Constant width bits) = Some (literal_printed width bits)
constant_printed (kind.Dense shape numbers) = Some elements
constant_printed _ = None

-- the dimensions of a fixed shape
abbrev pub extents_of : List Dim → List ℕ
extents_of [] = []
extents_of (Fixed extent ∷ ds) = extent ∷ extents_of ds
extents_of (Dynamic ∷ ds) = extents_of ds

-- nothing, one number for all elements, or nested lists
abbrev pub body_printed : Shape → List ℕ → SaidBody
body_printed shape [] = no_body_said
body_printed shape (n ∷ []) = record { literals = literal_of shape.elem n ∷ []; extents = None }
body_printed shape ns =
    record { literals = map (literal_of shape.elem) ns; extents = Some (extents_of shape.dims) }

abbrev pub dense_printed : Kind → SaidBody
dense_printed (kind.Dense shape numbers) = body_printed shape numbers
dense_printed _ = no_body_said

-- an offset or a size: a number, or the next operand
abbrev pub index_printed : SliceIndex → PlaceSaid
index_printed (index.Fixed n) = signed_said place_number n
index_printed index.Dynamic = place_value

abbrev pub maps_printed : Kind → List MapSaid
maps_printed k = map written_map (maps_of k)

-- the types that are known
abbrev pub known_types : List (Option PayloadType) → List PayloadType
known_types [] = []
known_types (None ∷ os) = known_types os
known_types (Some t ∷ os) = t ∷ known_types os

-- the one with a number
abbrev pub known_at : List (Option PayloadType) → ℕ → List PayloadType
known_at [] i = []
known_at (o ∷ os) zero = known_types (o ∷ [])
known_at (o ∷ os) (suc i) = known_at os i

-- the types that stand in a head, but for those behind its arrow: for a function those of its arguments, else those of
-- its operands or its widths; those of the block of a linalg.generic stand behind those of its operands
abbrev pub types_printed : Kind → List PayloadType → List (Option PayloadType) → List PayloadType
types_printed (kind.Func symbol private results) args os = args
types_printed kind.Return args os = known_types os
types_printed (kind.Call callee) args os = known_types os
types_printed (kind.Constant width bits) args os = Scalar width ∷ []
types_printed (kind.Binary which width) args os = Scalar width ∷ []
types_printed (kind.Compare which width) args os = Scalar width ∷ []
types_printed (kind.Select width) args os = Scalar width ∷ []
types_printed (kind.Convert which from to) args os = Scalar from ∷ (Scalar to ∷ [])
types_printed (kind.For width) args os = Scalar width ∷ []
types_printed kind.Yield args os = known_types os
types_printed kind.Dim args os = known_at os 0
types_printed kind.Extract args os = known_at os 0
types_printed kind.Insert args os = known_at os 1
types_printed kind.Cast args os = known_at os 0
types_printed (kind.Named which) args os = known_types os
types_printed (kind.Dense shape numbers) args os = Tensor shape ∷ []
types_printed (kind.ExtractSlice offsets sizes) args os = known_at os 0
types_printed (kind.InsertSlice offsets sizes) args os = known_at os 0 ++ known_at os 1
types_printed (kind.Generic maps iterators) args os = known_types os ++ args
types_printed kind.LinalgYield args os = known_types os
types_printed _ args os = []

-- the types behind the arrow
abbrev pub results_printed : Kind → List PayloadType → List PayloadType
results_printed (kind.Func symbol private results) ts = results
results_printed (kind.Call callee) ts = ts
results_printed (kind.For width) ts = ts
results_printed kind.If ts = ts
results_printed kind.Empty ts = ts
results_printed kind.Cast ts = ts
results_printed (kind.Named which) ts = ts
results_printed (kind.ExtractSlice offsets sizes) ts = ts
results_printed (kind.Generic maps iterators) ts = ts
results_printed _ ts = []

-- ---- heads

-- the head of an operation with these numbers
abbrev pub head_by : Names → ℕ → ℕ → Kind → List Attr → List ValueName → List PayloadType → List PayloadType → Said
head_by names i first k ds os ts args = record {
  row = row_of k;
  symbol = symbol_said k;
  private = is_private k;
  predicate = predicate_printed k;
  literal = constant_printed k;
  dense = dense_printed k;
  offsets = map index_printed (offsets_of k);
  sizes = map index_printed (sizes_of k);
  map = no_map;
  maps = maps_printed k;
  iterators = iterators_of k;
  entries = map entry_printed ds;
  defines = defines_printed i ts;
  args = arguments_printed first args;
  uses = map (use_printed names) os;
  types = types_printed k args (map (type_of names) os);
  results = results_printed k ts;
}

abbrev pub head_printed : Names → Tree → Said
head_printed names t =
    head_by names (number_of (names.entry t.name.0)) (first_of (names.entry t.name.0))
    t.kind t.attrs t.operands t.results (first_args t.regions)

-- ---- operations

abbrev mutual
  -- an empty yield is left out
  pub ops_printed : Names → Ops → SaidNodes Said
  ops_printed names no_ops = no_nodes_said
  ops_printed names (op n k ds os ts rs rest) =
      let t : Tree = record { name = n; kind = k; attrs = ds; operands = os; results = ts; regions = rs } in
      if is_empty_yield k ds os then ops_printed names rest
      else node_said (head_printed names t) (regions_printed names rs) (ops_printed names rest)

  pub regions_printed : Names → Regions → SaidBodies Said
  regions_printed names no_regions = no_bodies_said
  regions_printed names (region args ops rest) = body_said (ops_printed names ops) (regions_printed names rest)

-- functions, each of which names its own values
abbrev pub functions_printed : Ops → SaidNodes Said
functions_printed no_ops = no_nodes_said
functions_printed (op n k ds os ts rs rest) =
    let names = with_ops no_names (op n k ds os ts rs no_ops) in
    let t : Tree = record { name = n; kind = k; attrs = ds; operands = os; results = ts; regions = rs } in
    node_said (head_printed names t) (regions_printed names rs) (functions_printed rest)

abbrev pub printed_said : Module → SaidNodes Said
printed_said m =
    node_said (head_printed no_names m.root)
    (body_said (functions_printed (functions_of m)) no_bodies_said) no_nodes_said
