-- The numbers of tokens in the parts of a head are those of tokens.
use Rattle.std.specs.Prelude.{ℕ, ◌<◌, All, Option, Some, None}
use Rattle.xf_dense.specs.declared.body.Literal.{Literal as Element}
use Rattle.xf_dense.specs.declared.body.Literal.TheVariants as element
use Rattle.xf_format.specs.declared.parts.AttrEntry.{AttrEntry}
use Rattle.xf_format.specs.declared.parts.EntryValue.{EntryValue}
use Rattle.xf_format.specs.declared.parts.EntryValue.TheVariants as value
use Rattle.xf_format.specs.declared.parts.Literal.{Literal}
use Rattle.xf_format.specs.declared.parts.Literal.TheVariants as literal
use Rattle.xf_format.specs.declared.parts.MapEntry.{MapEntry}
use Rattle.xf_format.specs.declared.parts.MapEntry.TheVariants as map_entry
use Rattle.xf_format.specs.declared.parts.Parts.{Parts}
use Rattle.xf_format.specs.declared.parts.PlaceEntry.{PlaceEntry}
use Rattle.xf_format.specs.declared.parts.PlaceEntry.TheVariants as place
use Rattle.xf_format.specs.declared.parts.Ref.{Ref}
use Rattle.xf_format.specs.declared.parts.Use.{Use}

abbrev pub RefWithin : ℕ → Ref → Type 0
RefWithin n r = r.token < n

abbrev pub UseWithin : ℕ → Use → Type 0
UseWithin n u = u.token < n

abbrev pub SymbolWithin : ℕ → Option ℕ → Type 0
SymbolWithin n None = Unit {0}
SymbolWithin n (Some at) = at < n

abbrev pub LiteralWithin : ℕ → Option Literal → Type 0
LiteralWithin n None = Unit {0}
LiteralWithin n (Some (literal.Truth b)) = Unit {0}
LiteralWithin n (Some (literal.Integer negative at)) = at < n
LiteralWithin n (Some literal.Elements) = Unit {0}

abbrev pub ElementWithin : ℕ → Element → Type 0
ElementWithin n (element.Truth b) = Unit {0}
ElementWithin n (element.Integer negative at) = at < n

abbrev pub PlaceWithin : ℕ → PlaceEntry → Type 0
PlaceWithin n (place.Number negative at) = at < n
PlaceWithin n place.Value = Unit {0}

abbrev pub MapWithin : ℕ → MapEntry → Type 0
MapWithin n (map_entry.Written m) = Unit {0}
MapWithin n (map_entry.Alias at) = at < n

abbrev pub ValueWithin : ℕ → EntryValue → Type 0
ValueWithin n value.Unit = Unit {0}
ValueWithin n (value.Truth b) = Unit {0}
ValueWithin n (value.Integer negative at width) = at < n
ValueWithin n (value.Text at) = at < n

abbrev pub EntryWithin : ℕ → AttrEntry → Type 0
EntryWithin n e = (e.name < n) × ValueWithin n e.value

-- each number in the parts of an operation is below n
pub record PartsWithin (n : ℕ) (p : Parts) : Type 0 where
  pub symbol : SymbolWithin n p.symbol
  pub literal : LiteralWithin n p.literal
  pub elements : All (ElementWithin n) p.dense.literals
  pub offsets : All (PlaceWithin n) p.offsets
  pub sizes : All (PlaceWithin n) p.sizes
  pub maps : All (MapWithin n) p.maps
  pub entries : All (EntryWithin n) p.entries
  pub defines : All (RefWithin n) p.defines
  pub args : All (RefWithin n) p.args
  pub uses : All (UseWithin n) p.uses
