-- What is read of a head, by the numbers of tokens, and what it says, by their bytes.
use Rattle.std.specs.Prelude.{ℕ, ◌+◌, ◌-◌, ◌^◌, min, List, [], ◌∷◌, ◌++◌, map, Option, Some, None, Bool, true, false}
use Rattle.std.specs.Prelude.{option_map}
use Rattle.xf_lex.specs.declared.token.Token.{Token}
use Rattle.xf_type.specs.declared.attribute.AffineMap.{AffineMap}
use Rattle.xf_type.specs.declared.kind.CmpKind.{CmpKind}
use Rattle.xf_type.specs.declared.payload_type.PayloadType.{PayloadType}
use Rattle.xf_type.specs.declared.payload_type.Width.{Width}
use Rattle.xf_grammar.specs.Tokens.{Terminal, the_end, terminal, terminal_at, digits_of, number_of}
use Rattle.xf_dense.specs.Actions.{SaidBody, no_body, no_body_said}
use Rattle.xf_dense.specs.Actions as dense
use Rattle.xf_dense.specs.declared.body.Body.{Body}
use Rattle.xf_ir.specs.declared.kind.IteratorKind.{IteratorKind}
use Rattle.xf_format.specs.declared.parts.AttrEntry.{AttrEntry}
use Rattle.xf_format.specs.declared.parts.EntryValue.{EntryValue}
use Rattle.xf_format.specs.declared.parts.EntryValue.TheVariants as value
use Rattle.xf_format.specs.declared.parts.Literal.{Literal}
use Rattle.xf_format.specs.declared.parts.Literal.TheVariants as literal
use Rattle.xf_format.specs.declared.parts.MapEntry.{MapEntry}
use Rattle.xf_format.specs.declared.parts.MapEntry.TheVariants as map_entry
use Rattle.xf_format.specs.declared.parts.Parts.{Parts}
use Rattle.xf_format.specs.declared.parts.PlaceEntry.{PlaceEntry}
use Rattle.xf_format.specs.declared.parts.PlaceEntry.TheVariants as place
use Rattle.xf_format.specs.declared.parts.Ref.{Ref}
use Rattle.xf_format.specs.declared.parts.Use.{Use}
use Rattle.xf_format.specs.declared.row.Row.{Row}
use Rattle.xf_format.specs.declared.row.Row.TheVariants as row
use Rattle.xf_format.specs.declared.row.Side.{Side}
use Rattle.xf_format.specs.declared.row.Side.TheVariants.{Offsets, Sizes}

-- ---- by numbers

-- a map without dimensions
abbrev pub no_map : AffineMap
no_map = record { dims = 0; results = [] }

abbrev pub no_parts : Row → Parts
no_parts r = record {
  row = r;
  symbol = None;
  private = false;
  predicate = None;
  literal = None;
  dense = no_body;
  offsets = [];
  sizes = [];
  map = no_map;
  maps = [];
  iterators = [];
  entries = [];
  defines = [];
  args = [];
  uses = [];
  types = [];
  results = [];
}

abbrev pub ref : ℕ → ℕ → Ref
ref at n = record { token = at; count = n }

abbrev pub use_of : ℕ → Option ℕ → Use
use_of at i = record { token = at; number = i }

-- the number that a token writes, up to 2 ^ 32 - 1
abbrev pub count_of : Terminal → ℕ
count_of x = min (number_of (digits_of x)) (2 ^ 32 - 1)

abbrev pub count_at : List Token → ℕ → ℕ
count_at all at = count_of (terminal_at all at)

abbrev pub with_row : Row → Parts → Parts
with_row r h = record h { row = r }

abbrev pub with_symbol : ℕ → Parts → Parts
with_symbol at h = record h { symbol = Some at }

abbrev pub as_private : Parts → Parts
as_private h = record h { private = true }

abbrev pub with_predicate : CmpKind → Parts → Parts
with_predicate k h = record h { predicate = Some k }

abbrev pub with_literal : Literal → Parts → Parts
with_literal l h = record h { literal = Some l }

abbrev pub with_entry : ℕ → EntryValue → Parts → Parts
with_entry name v h = record h { entries = h.entries ++ (record { name = name; value = v }) ∷ [] }

abbrev pub with_define : Ref → Parts → Parts
with_define r h = record h { defines = h.defines ++ r ∷ [] }

abbrev pub with_arg : Ref → Parts → Parts
with_arg r h = record h { args = h.args ++ r ∷ [] }

abbrev pub with_use : Use → Parts → Parts
with_use r h = record h { uses = h.uses ++ r ∷ [] }

abbrev pub with_type : PayloadType → Parts → Parts
with_type t h = record h { types = h.types ++ t ∷ [] }

abbrev pub with_result : PayloadType → Parts → Parts
with_result t h = record h { results = h.results ++ t ∷ [] }

abbrev pub with_body : Body → Parts → Parts
with_body b h = record h { dense = b }

abbrev pub with_place : Side → PlaceEntry → Parts → Parts
with_place Offsets e h = record h { offsets = h.offsets ++ e ∷ [] }
with_place Sizes e h = record h { sizes = h.sizes ++ e ∷ [] }

-- one dimension more
abbrev pub widened : AffineMap → AffineMap
widened m = record m { dims = m.dims + 1 }

abbrev pub giving : ℕ → AffineMap → AffineMap
giving k m = record m { results = m.results ++ k ∷ [] }

abbrev pub with_map : AffineMap → Parts → Parts
with_map m h = record h { map = m }

-- the map is whole, and another begins
abbrev pub with_maps : MapEntry → Parts → Parts
with_maps e h = record h { maps = h.maps ++ e ∷ []; map = no_map }

abbrev pub with_iterator : IteratorKind → Parts → Parts
with_iterator k h = record h { iterators = h.iterators ++ k ∷ [] }

-- ---- by bytes

abbrev pub text_of : Terminal → List ℕ
text_of the_end = []
text_of (terminal k bytes) = bytes

abbrev pub text_at : List Token → ℕ → List ℕ
text_at all at = text_of (terminal_at all at)

-- %n, or %n#i
pub record UseSaid : Type 0 where
  pub name : List ℕ
  pub number : Option ℕ

-- %n, or %n:k
pub record DefineSaid : Type 0 where
  pub name : List ℕ
  pub count : ℕ

pub data LiteralSaid : Type 0 where
  truth : (b : Bool) → LiteralSaid
  number : (negative : Bool) (digits : List ℕ) → LiteralSaid
  -- the numbers of a tensor, which its body has
  elements : LiteralSaid

pub data PlaceSaid : Type 0 where
  place_number : (negative : Bool) (digits : List ℕ) → PlaceSaid
  -- the next operand
  place_value : PlaceSaid

pub data MapSaid : Type 0 where
  written_map : (m : AffineMap) → MapSaid
  alias_of : (name : List ℕ) → MapSaid

pub data ValueSaid : Type 0 where
  no_value : ValueSaid
  truth_value : (b : Bool) → ValueSaid
  number_value : (negative : Bool) (digits : List ℕ) (width : Width) → ValueSaid
  text_value : (quoted : List ℕ) → ValueSaid

pub record EntrySaid : Type 0 where
  pub name : List ℕ
  pub value : ValueSaid

pub record Said : Type 0 where
  pub row : Row
  pub symbol : Option (List ℕ)
  pub private : Bool
  pub predicate : Option CmpKind
  pub literal : Option LiteralSaid
  pub dense : SaidBody
  pub offsets : List PlaceSaid
  pub sizes : List PlaceSaid
  pub map : AffineMap
  pub maps : List MapSaid
  pub iterators : List IteratorKind
  pub entries : List EntrySaid
  pub defines : List DefineSaid
  pub args : List (List ℕ)
  pub uses : List UseSaid
  pub types : List PayloadType
  pub results : List PayloadType

abbrev pub use_said : List Token → Use → UseSaid
use_said all u = record { name = text_at all u.token; number = u.number }

abbrev pub define_said : List Token → Ref → DefineSaid
define_said all r = record { name = text_at all r.token; count = r.count }

abbrev pub arg_said : List Token → Ref → List ℕ
arg_said all r = text_at all r.token

abbrev pub literal_said : List Token → Literal → LiteralSaid
literal_said all (literal.Truth b) = truth b
literal_said all (literal.Integer negative at) = number negative (text_at all at)
literal_said all literal.Elements = elements

abbrev pub place_said : List Token → PlaceEntry → PlaceSaid
place_said all (place.Number negative at) = place_number negative (text_at all at)
place_said all place.Value = place_value

abbrev pub map_said : List Token → MapEntry → MapSaid
map_said all (map_entry.Written m) = written_map m
map_said all (map_entry.Alias at) = alias_of (text_at all at)

abbrev pub value_said : List Token → EntryValue → ValueSaid
value_said all value.Unit = no_value
value_said all (value.Truth b) = truth_value b
value_said all (value.Integer negative at w) = number_value negative (text_at all at) w
value_said all (value.Text at) = text_value (text_at all at)

abbrev pub entry_said : List Token → AttrEntry → EntrySaid
entry_said all e = record { name = text_at all e.name; value = value_said all e.value }

-- what a head says
abbrev pub said : List Token → Parts → Said
said all h = record {
  row = h.row;
  symbol = option_map (text_at all) h.symbol;
  private = h.private;
  predicate = h.predicate;
  literal = option_map (literal_said all) h.literal;
  dense = dense.said all h.dense;
  offsets = map (place_said all) h.offsets;
  sizes = map (place_said all) h.sizes;
  map = h.map;
  maps = map (map_said all) h.maps;
  iterators = h.iterators;
  entries = map (entry_said all) h.entries;
  defines = map (define_said all) h.defines;
  args = map (arg_said all) h.args;
  uses = map (use_said all) h.uses;
  types = h.types;
  results = h.results;
}

abbrev pub says_row : Row → Said → Said
says_row r t = record t { row = r }

abbrev pub says_symbol : List ℕ → Said → Said
says_symbol b t = record t { symbol = Some b }

abbrev pub says_private : Said → Said
says_private t = record t { private = true }

abbrev pub says_predicate : CmpKind → Said → Said
says_predicate k t = record t { predicate = Some k }

abbrev pub says_literal : LiteralSaid → Said → Said
says_literal l t = record t { literal = Some l }

abbrev pub says_entry : List ℕ → ValueSaid → Said → Said
says_entry b v t = record t { entries = t.entries ++ (record { name = b; value = v }) ∷ [] }

abbrev pub says_define : List ℕ → ℕ → Said → Said
says_define b k t = record t { defines = t.defines ++ (record { name = b; count = k }) ∷ [] }

abbrev pub says_arg : List ℕ → Said → Said
says_arg b t = record t { args = t.args ++ b ∷ [] }

abbrev pub says_use : List ℕ → Option ℕ → Said → Said
says_use b i t = record t { uses = t.uses ++ (record { name = b; number = i }) ∷ [] }

abbrev pub says_type : PayloadType → Said → Said
says_type u t = record t { types = t.types ++ u ∷ [] }

abbrev pub says_result : PayloadType → Said → Said
says_result u t = record t { results = t.results ++ u ∷ [] }

abbrev pub says_body : SaidBody → Said → Said
says_body b t = record t { dense = b }

abbrev pub says_place : Side → PlaceSaid → Said → Said
says_place Offsets e t = record t { offsets = t.offsets ++ e ∷ [] }
says_place Sizes e t = record t { sizes = t.sizes ++ e ∷ [] }

abbrev pub says_map : AffineMap → Said → Said
says_map m t = record t { map = m }

abbrev pub says_maps : MapSaid → Said → Said
says_maps e t = record t { maps = t.maps ++ e ∷ []; map = no_map }

abbrev pub says_iterator : IteratorKind → Said → Said
says_iterator k t = record t { iterators = t.iterators ++ k ∷ [] }

abbrev pub nothing_said : Said
nothing_said = record {
  row = row.Module;
  symbol = None;
  private = false;
  predicate = None;
  literal = None;
  dense = no_body_said;
  offsets = [];
  sizes = [];
  map = no_map;
  maps = [];
  iterators = [];
  entries = [];
  defines = [];
  args = [];
  uses = [];
  types = [];
  results = [];
}
