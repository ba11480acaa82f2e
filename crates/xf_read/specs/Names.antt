-- The checks of names and types: the first token in the text that each of them refuses.
use Rattle.std.specs.Prelude.{ℕ, ◌+◌, ◌==◌, ◌&&◌, min, List, [], ◌∷◌, length, Option, Some, None, Bool, true, false}
use Rattle.std.specs.Prelude.{if◌then◌else◌, is_some, slice_get}
use Rattle.std.specs.Option.{option_or}
use Rattle.xf_type.specs.declared.payload_type.PayloadType.{PayloadType}
use Rattle.xf_lex.specs.declared.token.Token.{Token}
use Rattle.xf_grammar.specs.Tree.{Tree}
use Rattle.xf_format.specs.declared.parts.MapEntry.{MapEntry}
use Rattle.xf_format.specs.declared.parts.MapEntry.TheVariants as map_entry
use Rattle.xf_format.specs.declared.parts.Parts.{Parts}
use Rattle.xf_format.specs.declared.parts.Ref.{Ref}
use Rattle.xf_format.specs.declared.parts.Use.{Use}
use Rattle.xf_format.specs.declared.row.Row.{Row}
use Rattle.xf_format.specs.declared.row.Row.TheVariants as row
use Rattle.xf_format.specs.Parts.{text_at, UseSaid, DefineSaid, use_said, Said, said}
use Rattle.xf_syntax.specs.Telling.{Nodes, no_nodes, node, Bodies, no_bodies, body, nodes_said, bodies_said}
use Rattle.xf_syntax.specs.Telling.{left_out, operations, operations_inside}
use Rattle.xf_read_base.specs.Attributes.{entries_twice}
use Rattle.xf_ir.specs.declared.name.OpName.{OpName}
use Rattle.xf_read.specs.declared.faults.Faults.{Faults}
use Rattle.xf_read.specs.declared.scope.Definer.TheVariants.{Results, Argument, Symbol}
use Rattle.xf_read.specs.declared.scope.Named.{Named}
use Rattle.xf_read.specs.Scopes.{Meanings, named, has_values, with_name, use_means, use_type}
use Rattle.xf_read.specs.Types.{one_type, result_types, argument_types, is_counted, stated_type, fits}

abbrev pub op_name : ℕ → OpName
op_name n = record { 0 = n }

-- ---- the earlier of two tokens

abbrev pub earlier : Option ℕ → Option ℕ → Option ℕ
earlier None b = b
earlier (Some i) None = Some i
earlier (Some i) (Some j) = Some (min i j)

abbrev pub no_faults : Faults
no_faults = record { undefined = None; twice = None; mismatch = None }

abbrev pub twice_fault : Option ℕ → Faults
twice_fault t = record { undefined = None; twice = t; mismatch = None }

abbrev pub with_faults : Faults → Faults → Faults
with_faults a b = record {
  undefined = earlier a.undefined b.undefined;
  twice = earlier a.twice b.twice;
  mismatch = earlier a.mismatch b.mismatch;
}

-- how many operations a tree has, with those that are left out
abbrev pub tree_count : List Token → Tree Parts → ℕ
tree_count all t = 1 + operations_inside (said all t.parts) (bodies_said all t.bodies)

-- ---- what an operation defines

-- a number of an argument above 2 ^ 32 - 1 is 2 ^ 32 - 1
abbrev pub argument_number : ℕ → ℕ
argument_number j = min j 4294967295

-- what the name of argument j of operation n stands for
abbrev pub argument_named : ℕ → ℕ → Option PayloadType → Named
argument_named n j t = named 1 (Argument (op_name n) (argument_number j)) (one_type t)

-- with the names of the arguments of operation n, from argument j on
abbrev pub with_arguments : ℕ → ℕ → List PayloadType → List (List ℕ) → Meanings → Meanings
with_arguments n j ts [] scope = scope
with_arguments n j ts (name ∷ names) scope =
    with_arguments n (j + 1) ts names (with_name name (argument_named n j (slice_get ts j)) scope)

-- what the name %n:k of results stands for: k values, whatever their types are
abbrev pub results_named : ℕ → ℕ → List PayloadType → Named
results_named n k ts = named k (Results (op_name n)) ts

abbrev pub with_defines : ℕ → List PayloadType → List DefineSaid → Meanings → Meanings
with_defines n ts [] scope = scope
with_defines n ts (d ∷ ds) scope =
    if has_values d.count then with_name d.name (results_named n d.count ts) scope else scope

-- a symbol stands for a function, and for no value
abbrev pub symbol_named : Named
symbol_named = named 0 Symbol []

-- the symbol that stands for a function from then on, by its token or its bytes
abbrev pub function_symbol : {A : Type 0} → Row → Option A → Option A
function_symbol row.Function symbol = symbol
function_symbol r symbol = None

abbrev pub with_function : Option (List ℕ) → Meanings → Meanings
with_function None scope = scope
with_function (Some symbol) scope = with_name symbol symbol_named scope

-- what is visible in the bodies of operation n, and behind it
abbrev pub inside : ℕ → Said → Meanings → Meanings
inside n t scope = with_arguments n 0 (argument_types t) t.args scope

abbrev pub behind : ℕ → Said → Meanings → Meanings
behind n t scope =
    with_defines n (result_types t) t.defines (with_function (function_symbol t.row t.symbol) scope)

-- ---- undefined names

-- the first alias of a map: a text defines none yet
abbrev pub alias_in : List MapEntry → Option ℕ
alias_in [] = None
alias_in (map_entry.Written m ∷ ms) = alias_in ms
alias_in (map_entry.Alias at ∷ ms) = Some at

-- the first use that stands for no value
abbrev pub undefined_in : List Token → Meanings → List Use → Option ℕ
undefined_in all scope [] = None
undefined_in all scope (u ∷ us) = if use_means scope (use_said all u) then undefined_in all scope us else Some u.token

-- the first name that stands for nothing: aliases stand before uses
abbrev pub undefined : List Token → Meanings → Parts → Option ℕ
undefined all scope p = option_or (alias_in p.maps) (undefined_in all scope p.uses)

-- ---- names twice

-- a token whose text is visible as a name
abbrev pub visible_at : List Token → Meanings → ℕ → Option ℕ
visible_at all scope at = if is_some (scope (text_at all at)) then Some at else None

abbrev pub symbol_twice : List Token → Meanings → Option ℕ → Option ℕ
symbol_twice all scope None = None
symbol_twice all scope (Some at) = visible_at all scope at

-- a name of no values stands twice with none
abbrev pub results_twice : List Token → Meanings → List Ref → Option ℕ
results_twice all scope [] = None
results_twice all scope (r ∷ rs) = if has_values r.count then visible_at all scope r.token else None

-- the arguments from argument j on, each with the names of those before
abbrev pub args_twice : List Token → ℕ → ℕ → List PayloadType → List Ref → Meanings → Option ℕ
args_twice all n j ts [] scope = None
args_twice all n j ts (r ∷ rs) scope =
    earlier (visible_at all scope r.token)
    (args_twice all n (j + 1) ts rs (with_name (text_at all r.token) (argument_named n j (slice_get ts j)) scope))

-- the symbol of a function, or the name of results
abbrev pub names_twice : List Token → Parts → Meanings → Option ℕ
names_twice all p scope =
    earlier (symbol_twice all scope (function_symbol p.row p.symbol)) (results_twice all scope p.defines)

abbrev pub twice : List Token → ℕ → Parts → Meanings → Option ℕ
twice all n p scope =
    earlier (entries_twice all (λ name. false) p.entries)
    (earlier (names_twice all p scope) (args_twice all n 0 (argument_types (said all p)) p.args scope))

-- ---- types and numbers that differ

-- the operands from operand i on have the types that are stated for them
abbrev pub uses_fit : Meanings → Said → ℕ → List UseSaid → Bool
uses_fit scope t i [] = true
uses_fit scope t i (u ∷ us) = fits (stated_type t i) (use_type scope u) && uses_fit scope t (i + 1) us

-- a name of k results, where there is one, is one of k results
abbrev pub defines_fit : List DefineSaid → List PayloadType → Bool
defines_fit [] ts = true
defines_fit (d ∷ ds) ts = d.count == length ts

abbrev pub types_agree : Said → Meanings → Bool
types_agree t scope =
    (is_counted t && uses_fit scope t 0 t.uses)
    && (defines_fit t.defines (result_types t) && (length t.args == length (argument_types t)))

-- ---- all operations

abbrev pub head_faults : List Token → ℕ → ℕ → Parts → Meanings → Faults
head_faults all n first p scope = record {
  undefined = undefined all scope p;
  twice = twice all n p scope;
  mismatch = if types_agree (said all p) scope then None else Some first;
}

-- the faults of operations, the first of which is operation n of the text
abbrev mutual
  pub nodes_faults : List Token → ℕ → Meanings → Nodes → Faults
  nodes_faults all n scope no_nodes = no_faults
  nodes_faults all n scope (node first p bs rest) =
      with_faults (with_faults (head_faults all n first p scope)
      (bodies_faults all (n + 1) p (inside n (said all p) scope) bs))
      (nodes_faults all (n + (1 + operations_inside (said all p) (bodies_said all bs))) (behind n (said all p) scope)
      rest)

  pub bodies_faults : List Token → ℕ → Parts → Meanings → Bodies → Faults
  bodies_faults all n p scope no_bodies = no_faults
  bodies_faults all n p scope (body ns close rest) =
      with_faults (nodes_faults all n scope ns)
      (bodies_faults all (n + (operations (nodes_said all ns) + left_out (said all p) (nodes_said all ns))) p scope
      rest)

-- the faults of operation n and of what it holds
abbrev pub tree_faults : List Token → ℕ → Meanings → Tree Parts → Faults
tree_faults all n scope t =
    with_faults (head_faults all n t.first t.parts scope)
    (bodies_faults all (n + 1) t.parts (inside n (said all t.parts) scope) t.bodies)
