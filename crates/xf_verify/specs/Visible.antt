-- The values that are visible where an operation stands, in the code.
use Rattle.std.specs.Prelude.{ℕ, List, [], ◌∷◌, Option, Some, None, Bool, true, false, ◌==◌, ◌&&◌, if◌then◌else◌}
use Rattle.std.specs.Prelude.{slice_get}
use Rattle.std.specs.BTreeMap.{get}
use Rattle.std.specs.Ordering.{nat_cmp}
use Rattle.xf_type.specs.declared.payload_type.PayloadType.{PayloadType}
use Rattle.xf_ir.specs.declared.name.ValueName.{ValueName}
use Rattle.xf_ir.specs.declared.name.ValueName.TheVariants.{Result, Arg, Free}
use Rattle.xf_ir.specs.Tree.{Tree}
use Rattle.xf_ir.specs.Lists.{some}
use Rattle.xf_verify.specs.declared.scope.Definition.{Definition}
use Rattle.xf_verify.specs.declared.scope.Definition.TheVariants.{Results, Arguments}
use Rattle.xf_verify.specs.declared.scope.VisibleValues.{VisibleValues}

-- the values of each operation that are visible, by its number
abbrev pub Definitions : Type 0
Definitions = ℕ → Option Definition

abbrev pub no_definitions : Definitions
no_definitions n = None

abbrev pub definitions_in : VisibleValues → Definitions
definitions_in s n = get nat_cmp s.definitions n

abbrev pub with_definition : ℕ → Option Definition → Definitions → Definitions
with_definition n d ds q = if q == n then d else ds q

abbrev pub has_types : List PayloadType → Bool
has_types [] = false
has_types (t ∷ ts) = true

-- values of these types, where there are any
abbrev pub definition_of : List PayloadType → Definition → Option Definition
definition_of ts d = if has_types ts then Some d else None

-- without those of these operations
abbrev pub without : List Tree → Definitions → Definitions
without ts ds q = if some (λ t. has_types t.results && (q == t.name.0)) ts then None else ds q

-- ---- the type of each value that is visible

abbrev pub result_type : Option Definition → ℕ → Option PayloadType
result_type None i = None
result_type (Some (Results ts)) i = slice_get ts.now i
result_type (Some (Arguments r ts)) i = None

abbrev pub argument_type : Option Definition → ℕ → ℕ → Option PayloadType
argument_type None r i = None
argument_type (Some (Results ts)) r i = None
argument_type (Some (Arguments s ts)) r i = if r == s then slice_get ts.now i else None

abbrev pub type_among : Definitions → ValueName → Option PayloadType
type_among ds (Result o i) = result_type (ds o.0) i
type_among ds (Arg o r i) = argument_type (ds o.0) r i
type_among ds (Free i) = None

abbrev pub types_in : VisibleValues → ValueName → Option PayloadType
types_in s = type_among (definitions_in s)
