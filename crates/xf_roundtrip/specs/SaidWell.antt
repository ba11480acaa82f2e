-- Whether names and types are right in what a text says: each map is written, each use stands for a value, no name
-- stands twice, and the types and numbers that are stated are those of the values.
use Rattle.std.specs.Prelude.{ℕ, ◌+◌, ◌&&◌, List, [], ◌∷◌, Option, Some, None, Bool, true, false, not}
use Rattle.std.specs.Prelude.{is_some, slice_get, if◌then◌else◌}
use Rattle.xf_type.specs.declared.payload_type.PayloadType.{PayloadType}
use Rattle.xf_format.specs.Parts.{DefineSaid, EntrySaid, MapSaid, written_map, alias_of, Said}
use Rattle.xf_ir.specs.Lists.{every}
use Rattle.xf_read_base.specs.Attributes.{also}
use Rattle.xf_read.specs.Names.{argument_named, function_symbol, inside, behind, types_agree}
use Rattle.xf_read.specs.Scopes.{Meanings, has_values, no_names, with_name, use_means}
use Rattle.xf_read.specs.Types.{argument_types}
use Rattle.xf_syntax.specs.Telling.{SaidNodes, no_nodes_said, node_said, SaidBodies, no_bodies_said, body_said}
use Rattle.xf_syntax.specs.Telling.{operations, left_out, operations_inside}

-- ---- names that stand once

-- attributes whose names are others than these, and differ
abbrev pub entries_once : (List ℕ → Bool) → List EntrySaid → Bool
entries_once names [] = true
entries_once names (e ∷ es) = not (names e.name) && entries_once (also e.name names) es

abbrev pub is_new : Meanings → List ℕ → Bool
is_new scope name = not (is_some (scope name))

abbrev pub symbol_new : Meanings → Option (List ℕ) → Bool
symbol_new scope None = true
symbol_new scope (Some symbol) = is_new scope symbol

abbrev pub defines_new : Meanings → List DefineSaid → Bool
defines_new scope [] = true
defines_new scope (d ∷ ds) = if has_values d.count then is_new scope d.name else true

-- the arguments from argument j on, each with the names of those before
abbrev pub arguments_new : ℕ → ℕ → List PayloadType → List (List ℕ) → Meanings → Bool
arguments_new n j ts [] scope = true
arguments_new n j ts (name ∷ names) scope =
    is_new scope name
    && arguments_new n (j + 1) ts names (with_name name (argument_named n j (slice_get ts j)) scope)

abbrev pub names_once : ℕ → Said → Meanings → Bool
names_once n t scope =
    entries_once (λ name. false) t.entries
    && ((symbol_new scope (function_symbol t.row t.symbol) && defines_new scope t.defines)
    && arguments_new n 0 (argument_types t) t.args scope)

-- ---- all operations

-- a map, and no alias of one
abbrev pub is_written : MapSaid → Bool
is_written (written_map m) = true
is_written (alias_of name) = false

-- the head of operation n
abbrev pub head_well : ℕ → Said → Meanings → Bool
head_well n t scope =
    (every is_written t.maps && every (use_means scope) t.uses) && (names_once n t scope && types_agree t scope)

abbrev mutual
  pub nodes_well : ℕ → Meanings → SaidNodes → Bool
  nodes_well n scope no_nodes_said = true
  nodes_well n scope (node_said t bs rest) =
      (head_well n t scope && bodies_well (n + 1) t (inside n t scope) bs)
      && nodes_well (n + (1 + operations_inside t bs)) (behind n t scope) rest

  pub bodies_well : ℕ → Said → Meanings → SaidBodies → Bool
  bodies_well n t scope no_bodies_said = true
  bodies_well n t scope (body_said ns rest) =
      nodes_well n scope ns && bodies_well (n + (operations ns + left_out t ns)) t scope rest

-- the module is the first operation, and the only one
abbrev pub said_well : SaidNodes → Bool
said_well no_nodes_said = false
said_well (node_said t bs rest) = head_well 0 t no_names && bodies_well 1 t (inside 0 t no_names) bs
