-- The module that a file means, by what its heads say in bytes: operations are named from 0 in preorder, and the module
-- is 0. Where a check of names or types finds a fault, it is any.
use Rattle.std.specs.Prelude.{ℕ, ◌+◌, List, [], ◌∷◌, ◌++◌, map, Option, Some, None, Bool, not, ◌&&◌, if◌then◌else◌}
use Rattle.std.specs.Prelude.{slice_get}
use Rattle.xf_span.specs.declared.place.Place.{Place}
use Rattle.xf_lex.specs.declared.token.Token.{Token}
use Rattle.xf_span.specs.Place.{first_place}
use Rattle.xf_format.specs.declared.parts.Parts.{Parts}
use Rattle.xf_format.specs.Format.{ends_open}
use Rattle.xf_format.specs.Parts.{Said, said, nothing_said}
use Rattle.xf_ir.specs.declared.kind.Kind.TheVariants as kind
use Rattle.xf_ir.specs.declared.op.Module.{Module}
use Rattle.xf_ir.specs.Tree.{Ops, no_ops, op, Regions, no_regions, region, cons}
use Rattle.xf_ir.specs.Tree.{Tree as Op}
use Rattle.xf_syntax.specs.declared.tree.File.{File}
use Rattle.xf_syntax.specs.Telling.{Nodes, no_nodes, node, Bodies, no_bodies, body, nodes_said, says_yield_last}
use Rattle.xf_syntax.specs.Telling.{SaidNodes, no_nodes_said, node_said, SaidBodies, no_bodies_said, body_said}
use Rattle.xf_syntax.specs.Telling.{operations, left_out, operations_inside}
use Rattle.xf_syntax.specs.Written.{file_said}
use Rattle.xf_read_base.specs.Structured.{no_aliases}
use Rattle.xf_read_base.specs.Values.{attrs_said, kind_said}
use Rattle.xf_read.specs.declared.faults.Faults.{Faults}
use Rattle.xf_read.specs.Names.{op_name, tree_count, inside, behind, tree_faults}
use Rattle.xf_read.specs.Scopes.{Meanings, no_names, use_value}
use Rattle.xf_read.specs.Types.{result_types, argument_types}

-- ---- operations

-- operations before others
abbrev pub joined : Ops → Ops → Ops
joined no_ops us = us
joined (op n k ds os ts rs rest) us = op n k ds os ts rs (joined rest us)

abbrev pub yield_tree : ℕ → Op
yield_tree n = record {
  name = op_name n;
  kind = kind.Yield;
  attrs = [];
  operands = [];
  results = [];
  regions = no_regions;
}

-- whether a body lacks the yield that it is to end in
abbrev pub lacks_yield : Said → SaidNodes → Bool
lacks_yield t ns = ends_open t.row t.results && not (says_yield_last ns)

-- the yield that is left out at the end of a body, which is operation n
abbrev pub yield_said : Said → SaidNodes → ℕ → Ops
yield_said t ns n = if lacks_yield t ns then cons (yield_tree n) no_ops else no_ops

-- operations, the first of which is operation n
abbrev mutual
  pub ops_said : ℕ → Meanings → SaidNodes → Ops
  ops_said n scope no_nodes_said = no_ops
  ops_said n scope (node_said t bs rest) =
      op (op_name n) (kind_said no_aliases t.row t) (attrs_said t.entries) (map (use_value scope) t.uses)
      (result_types t)
      (regions_said (n + 1) t (inside n t scope) bs)
      (ops_said (n + (1 + operations_inside t bs)) (behind n t scope) rest)

  pub regions_said : ℕ → Said → Meanings → SaidBodies → Regions
  regions_said n t scope no_bodies_said = no_regions
  regions_said n t scope (body_said ns rest) =
      region (argument_types t) (joined (ops_said n scope ns) (yield_said t ns (n + operations ns)))
      (regions_said (n + (operations ns + left_out t ns)) t scope rest)

-- operation n with what it holds
abbrev pub tree_said : ℕ → Meanings → Said → SaidBodies → Op
tree_said n scope t bs = record {
  name = op_name n;
  kind = kind_said no_aliases t.row t;
  attrs = attrs_said t.entries;
  operands = map (use_value scope) t.uses;
  results = result_types t;
  regions = regions_said (n + 1) t (inside n t scope) bs;
}

-- a module, with the number of its operations
abbrev pub root_said : Said → SaidBodies → Module
root_said t bs = record { root = tree_said 0 no_names t bs; next = 1 + operations_inside t bs }

-- the module is the first operation, and the only one; of none, it is an empty one
abbrev pub said_meant : SaidNodes → Module
said_meant no_nodes_said = root_said nothing_said no_bodies_said
said_meant (node_said t bs rest) = root_said t bs

-- ---- places

abbrev pub place_or : Option Token → Place
place_or None = first_place
place_or (Some t) = t.place

-- the place of the token with a number
abbrev pub place_of : List Token → ℕ → Place
place_of all at = place_or (slice_get all at)

-- a yield that is left out has the place of the brace that closes its body
abbrev pub yield_places : List Token → Parts → Nodes → ℕ → List Place
yield_places all p ns close = if lacks_yield (said all p) (nodes_said all ns) then place_of all close ∷ [] else []

abbrev mutual
  pub nodes_places : List Token → Nodes → List Place
  nodes_places all no_nodes = []
  nodes_places all (node first p bs rest) = place_of all first ∷ (bodies_places all p bs ++ nodes_places all rest)

  pub bodies_places : List Token → Parts → Bodies → List Place
  bodies_places all p no_bodies = []
  bodies_places all p (body ns close rest) =
      nodes_places all ns ++ (yield_places all p ns close ++ bodies_places all p rest)

-- ---- files

-- how many operations a file has, with the module and those that are left out
abbrev pub file_count : List Token → File → ℕ
file_count all f = tree_count all f.root

abbrev pub file_faults : List Token → File → Faults
file_faults all f = tree_faults all 0 no_names f.root

abbrev pub meant : List Token → File → Module
meant all f = said_meant (file_said all f)

-- a module that is left out has the place where a text begins
abbrev pub module_place : List Token → File → Place
module_place all f = if f.written then place_of all f.root.first else first_place

-- the place of each operation, by its number
abbrev pub places_of : List Token → File → List Place
places_of all f = module_place all f ∷ bodies_places all f.root.parts f.root.bodies
