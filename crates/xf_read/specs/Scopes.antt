-- What the names of values stand for where an operation stands.
use Rattle.std.specs.Prelude.{ℕ, zero, suc, max, List, Option, Some, None, Bool, true, false, ◌||◌, ◌==◌, if◌then◌else◌}
use Rattle.std.specs.Prelude.{nat_lt, slice_get}
use Rattle.std.specs.Str.{bytes_eq}
use Rattle.xf_type.specs.declared.payload_type.PayloadType.{PayloadType}
use Rattle.xf_format.specs.Parts.{UseSaid}
use Rattle.xf_read_base.specs.Spelt.{count_used}
use Rattle.xf_ir.specs.declared.name.ValueName.{ValueName}
use Rattle.xf_ir.specs.declared.name.ValueName.TheVariants.{Result, Arg, Free}
use Rattle.xf_read.specs.declared.scope.Definer.{Definer}
use Rattle.xf_read.specs.declared.scope.Definer.TheVariants.{Results, Argument, Symbol}
use Rattle.xf_read.specs.declared.scope.Named.{Named}

-- ---- names of one text

-- a name of so many values, which have these types where they are known
abbrev pub named : ℕ → Definer → List PayloadType → Named
named k d ts = record { most = k; single = k == 1; definer = d; types = ts }

-- a name of no values is no value: it stands for nothing, and beside any other
abbrev pub has_values : ℕ → Bool
has_values zero = false
has_values (suc k) = true

-- a name beside those of its text that are visible already; what defines the values, and their types, the last one
-- tells. It stands twice, so that the text means no module; but a use of a value that any of them has is defined.
abbrev pub beside : Option Named → Named → Named
beside None x = x
beside (Some y) x = record x { most = max y.most x.most; single = y.single || x.single }

-- ---- names that are visible

-- what the names of each text stand for; a text that is not visible as a name stands for nothing
abbrev pub Meanings : Type 0
Meanings = List ℕ → Option Named

abbrev pub no_names : Meanings
no_names name = None

abbrev pub with_name : List ℕ → Named → Meanings → Meanings
with_name name x scope other = if bytes_eq name other then Some (beside (scope name) x) else scope other

-- ---- uses

-- %n is the one value of some name of that text, and %n#i value i of some name of it
abbrev pub has_value : Option ℕ → Named → Bool
has_value (Some i) x = nat_lt i x.most
has_value None x = x.single

abbrev pub has_use : Option ℕ → Option Named → Bool
has_use number None = false
has_use number (Some x) = has_value number x

-- whether a use stands for a value
abbrev pub use_means : Meanings → UseSaid → Bool
use_means scope u = has_use u.number (scope u.name)

-- ---- values and their types

abbrev pub value_of : Definer → ℕ → ValueName
value_of (Results o) i = Result o i
value_of (Argument o j) i = Arg o 0 j
value_of Symbol i = Free 0

-- value i of a name; any of one that stands for nothing, or for a function
abbrev pub value_in : Option Named → ℕ → ValueName
value_in None i = Free 0
value_in (Some x) i = value_of x.definer i

abbrev pub type_in : Option Named → ℕ → Option PayloadType
type_in None i = None
type_in (Some x) i = slice_get x.types i

-- the value that a use stands for, and its type; without a number it is value 0
abbrev pub use_value : Meanings → UseSaid → ValueName
use_value scope u = value_in (scope u.name) (count_used u.number)

abbrev pub use_type : Meanings → UseSaid → Option PayloadType
use_type scope u = type_in (scope u.name) (count_used u.number)
