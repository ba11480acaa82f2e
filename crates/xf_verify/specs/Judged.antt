-- What the walk over the operations judges: each where it stands, by the types of the values that are visible there and
-- by the set of the names before it.
use Rattle.std.specs.Prelude.{◌≡◌, ℕ, ◌+◌, List, [], ◌∷◌, ◌++◌, length, map, Option, Some, None, Bool, true, not, ◌&&◌}
use Rattle.std.specs.Prelude.{nat_lt, is_some}
use Rattle.std.specs.Ordering.{nat_cmp}
use Rattle.std.specs.FinSet as set
use Rattle.xf_type.specs.declared.payload_type.PayloadType.{PayloadType}
use Rattle.xf_ir.specs.declared.name.OpName.{OpName}
use Rattle.xf_ir.specs.declared.name.ValueName.{ValueName}
use Rattle.xf_ir.specs.Tree.{Ops, no_ops, op, Regions, no_regions, region, Tree}
use Rattle.xf_ir.specs.View.{ops_of}
use Rattle.xf_ir.specs.Lists.{every}
use Rattle.xf_ir.specs.Types.{known}
use Rattle.xf_ir.specs.Places.{Numbering, results_of, args_of}
use Rattle.xf_ir.specs.Placed.{type_or, Holder, holder_of, Placed}
use Rattle.xf_ir.specs.Calls.{callee_ends, has_its_callee}
use Rattle.xf_ir.specs.RuleBlocks.{has_its_regions, ends_its_blocks}
use Rattle.xf_ir.specs.RuleTypes.{has_its_types}
use Rattle.xf_ir.specs.RuleAttributes.{has_its_attributes, has_types_in_range}
use Rattle.xf_ir.specs.RuleLinalg.{has_its_maps, has_its_iterators, has_its_reduction, has_its_extents, fits_its_body}
use Rattle.xf_ir.specs.RuleSlices.{has_its_slices}
use Rattle.xf_ir.specs.declared.rule.Rule.TheVariants as rule
use Rattle.xf_ir.specs.Violations.{Violation, Kept, first_false, broken_or}
pub use Rattle.xf_verify.specs.Answers.{Answers}
use Rattle.xf_verify.specs.declared.facts.Facts.{Facts}
use Rattle.xf_verify.specs.declared.stand.Holder.{Holder as HolderSeen}
use Rattle.xf_verify.specs.declared.stand.Stand.{Stand}
use Rattle.xf_verify.specs.declared.walk.Walk.{Walk}
use Rattle.xf_verify.specs.Chains.{signatures_in, ends_in}
use Rattle.xf_rules.specs.OperandTypes.{operand_types}
use Rattle.xf_rules.specs.Given.{gives_seen}
use Rattle.xf_verify.specs.Visible.{definitions_in}

-- ---- where operations stand

-- the type of each visible value
abbrev pub Sees : Type 0
Sees = ValueName → Option PayloadType

-- where a place defines values of these types too
abbrev pub sees_with : Numbering → List PayloadType → Sees → Sees
sees_with p ts see v = type_or (p v) ts (see v)

abbrev pub stands : Holder → Sees → Tree → Ops → Placed
stands h see t after = record { holder = h; types = map see t.operands; tree = t; after = after }

abbrev mutual
  pub ops_stand : Holder → Sees → Ops → List Placed
  ops_stand h see no_ops = []
  ops_stand h see (op n k ds os ts rs rest) =
      stands h see (record { name = n; kind = k; attrs = ds; operands = os; results = ts; regions = rs }) rest
      ∷ (regions_stand (holder_of k (map see os) ts) see n 0 rs
      ++ ops_stand h (sees_with (results_of n (length ts)) ts see) rest)

  pub regions_stand : Holder → Sees → OpName → ℕ → Regions → List Placed
  regions_stand h see n i no_regions = []
  regions_stand h see n i (region args ops rest) =
      ops_stand h (sees_with (args_of n i (length args)) args see) ops ++ regions_stand h see n (i + 1) rest

-- an operation, and what it holds
abbrev pub tree_stands : Holder → Sees → Tree → Ops → List Placed
tree_stands h see t after =
    stands h see t after ∷ regions_stand (holder_of t.kind (map see t.operands) t.results) see t.name 0 t.regions

-- functions, each of which sees its own values alone
abbrev pub functions_stand : Holder → Sees → Ops → List Placed
functions_stand h see no_ops = []
functions_stand h see (op n k ds os ts rs rest) =
    tree_stands h see (record { name = n; kind = k; attrs = ds; operands = os; results = ts; regions = rs }) rest
    ++ functions_stand h see rest

abbrev pub blocks_stand : Holder → Sees → Regions → List Placed
blocks_stand h see no_regions = []
blocks_stand h see (region args ops rest) = functions_stand h see ops ++ blocks_stand h see rest

-- the root, and what it holds
abbrev pub all_stand : Holder → Sees → Tree → List Placed
all_stand h see t = stands h see t no_ops ∷ blocks_stand (holder_of t.kind (map see t.operands) t.results) see t.regions

-- ---- the rules that each keeps

abbrev pub shape_rules : Placed → List Kept
shape_rules p =
    (rule.Regions, has_its_regions p)
    ∷ ((rule.Blocks, ends_its_blocks p)
    ∷ ((rule.Uses, every known p.types)
    ∷ []))

abbrev pub type_rules : Facts → Placed → List Kept
type_rules f p =
    (rule.Types, has_its_types (signatures_in f.calls) p)
    ∷ ((rule.Attributes, has_its_attributes p)
    ∷ ((rule.Callees, has_its_callee (signatures_in f.calls) p)
    ∷ ((rule.Chains, callee_ends (ends_in f.calls) p.tree.kind)
    ∷ [])))

abbrev pub linalg_rules : Placed → List Kept
linalg_rules p =
    (rule.Maps, has_its_maps p)
    ∷ ((rule.Iterators, has_its_iterators p)
    ∷ ((rule.Reductions, has_its_reduction p)
    ∷ ((rule.Extents, has_its_extents p)
    ∷ ((rule.Bodies, fits_its_body p)
    ∷ []))))

abbrev pub range_rules : Placed → List Kept
range_rules p = (rule.Ranges, has_types_in_range p) ∷ ((rule.Slices, has_its_slices p) ∷ [])

-- V3 to V16
abbrev pub rules_of : Facts → Placed → List Kept
rules_of f p = shape_rules p ++ (type_rules f p ++ (linalg_rules p ++ range_rules p))

abbrev pub Names : Type 0
Names = set.FinSet nat_cmp

abbrev pub is_new : Facts → Names → OpName → Bool
is_new f names n = not (set.contains names n.0) && nat_lt n.0 f.next

-- V1 to V16; the root alone can break V2
abbrev pub rules_behind : Facts → Names → Placed → List Kept
rules_behind f names p = (rule.Names, is_new f names p.tree.name) ∷ ((rule.Functions, true) ∷ rules_of f p)

-- ---- the first violation

abbrev pub first_behind : Facts → Names → List Placed → Option Violation
first_behind f names [] = None
first_behind f names (p ∷ ps) =
    broken_or (first_false (rules_behind f names p)) p.tree.name (first_behind f (set.insert names p.tree.name.0) ps)

-- the names before what stands behind these operations
abbrev pub names_behind : Names → List Placed → Names
names_behind names [] = names
names_behind names (p ∷ ps) = names_behind (set.insert names p.tree.name.0) ps

-- ---- the code's own

abbrev pub holder_seen : HolderSeen → Holder
holder_seen h = record { kind = h.kind.now; gives = gives_seen h.gives }

abbrev pub stand_seen : Stand → Placed
stand_seen s = record {
  holder = holder_seen s.holder;
  types = operand_types s.types.now;
  tree = s.op.now;
  after = ops_of s.after.now;
}

-- each operation whose values are visible was named
pub record IsNamed (w : Walk) : Type 0 where
  pub named : (q : ℕ) → is_some (definitions_in w.scope q) ≡ true → set.contains w.names q ≡ true

-- these operations were judged, and what was visible before is visible
pub record Judged (old new : Walk) (ps : List Placed) : Type 0 where
  pub names : new.names ≡ names_behind old.names ps
  pub scope : definitions_in new.scope ≡ definitions_in old.scope
  pub named : IsNamed new
