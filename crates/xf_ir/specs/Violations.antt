-- The first operation that breaks a rule, with its first rule.
use Rattle.std.specs.Prelude.{ℕ, List, [], ◌∷◌, Option, Some, None, Bool, true, not, ◌&&◌, nat_lt, if◌then◌else◌}
use Rattle.xf_ir.specs.declared.name.OpName.{OpName}
use Rattle.xf_ir.specs.declared.op.Module.{Module}
use Rattle.xf_ir.specs.declared.rule.Rule.{Rule}
use Rattle.xf_ir.specs.declared.rule.Rule.TheVariants as rule
use Rattle.xf_ir.specs.Tree.{Ops, no_ops, op, Regions, no_regions, region}
use Rattle.xf_ir.specs.Kinds.{is_container, is_module, is_function}
use Rattle.xf_ir.specs.Lists.{every, is_empty, is_among, texts_once}
use Rattle.xf_ir.specs.Types.{known}
use Rattle.xf_ir.specs.Calls.{signatures, has_its_callee, has_short_chains}
use Rattle.xf_ir.specs.Placed.{Placed, placed, functions_of}
use Rattle.xf_ir.specs.RuleBlocks.{has_its_regions, ends_its_blocks}
use Rattle.xf_ir.specs.RuleTypes.{has_its_types}
use Rattle.xf_ir.specs.RuleAttributes.{has_its_attributes, has_types_in_range}
use Rattle.xf_ir.specs.RuleLinalg.{has_its_maps, has_its_iterators, has_its_reduction, has_its_extents, fits_its_body}
use Rattle.xf_ir.specs.RuleSlices.{has_its_slices}
use Rattle.xf_ir.specs.Valid.{symbols_in}

-- a broken rule, and the operation that breaks it
pub record Violation : Type 0 where
  pub rule : Rule
  pub op : OpName

-- ---- V1 and V2 as tests

-- whether no operation before has the name, and it is below the next one
abbrev pub is_new_name : ℕ → List OpName → OpName → Bool
is_new_name next before n = not (is_among n before) && nat_lt n.0 next

abbrev mutual
  pub ops_inner : Ops → Bool
  ops_inner no_ops = true
  ops_inner (op n k ds os ts rs rest) = not (is_container k) && (regions_inner rs && ops_inner rest)

  pub regions_inner : Regions → Bool
  regions_inner no_regions = true
  regions_inner (region args ops rest) = ops_inner ops && regions_inner rest

abbrev pub functions_alone : Ops → Bool
functions_alone no_ops = true
functions_alone (op n k ds os ts rs rest) = is_function k && (regions_inner rs && functions_alone rest)

abbrev pub blocks_alone : Regions → Bool
blocks_alone no_regions = true
blocks_alone (region args ops rest) = functions_alone ops && blocks_alone rest

abbrev pub holds_functions : Module → Bool
holds_functions m = is_module m.root.kind && (blocks_alone m.root.regions && texts_once (symbols_in m.root.regions))

-- the root is the first operation; it alone can break V2
abbrev pub root_holds_functions : Module → List OpName → Bool
root_holds_functions m before = if is_empty before then holds_functions m else true

-- ---- which rules an operation keeps

-- a rule, and whether it is kept
abbrev pub Kept : Type 0
Kept = Rule × Bool

-- V3 to V16
abbrev pub local_rules : Module → Placed → List Kept
local_rules m p =
    (rule.Regions, has_its_regions p)
    ∷ ((rule.Blocks, ends_its_blocks p)
    ∷ ((rule.Uses, every known p.types)
    ∷ ((rule.Types, has_its_types (signatures m) p)
    ∷ ((rule.Attributes, has_its_attributes p)
    ∷ ((rule.Callees, has_its_callee (signatures m) p)
    ∷ ((rule.Chains, has_short_chains (functions_of m) p)
    ∷ ((rule.Maps, has_its_maps p)
    ∷ ((rule.Iterators, has_its_iterators p)
    ∷ ((rule.Reductions, has_its_reduction p)
    ∷ ((rule.Extents, has_its_extents p)
    ∷ ((rule.Bodies, fits_its_body p)
    ∷ ((rule.Ranges, has_types_in_range p)
    ∷ ((rule.Slices, has_its_slices p)
    ∷ [])))))))))))))

-- V1 to V16, for an operation behind those of some names
abbrev pub rules_kept : Module → List OpName → Placed → List Kept
rules_kept m before p =
    (rule.Names, is_new_name m.next before p.tree.name)
    ∷ ((rule.Functions, root_holds_functions m before)
    ∷ local_rules m p)

-- the first rule that is not kept
abbrev pub first_false : List Kept → Option Rule
first_false [] = None
first_false (x ∷ xs) = if x.1 then first_false xs else Some x.0

-- ---- the first violation

abbrev pub broken_or : Option Rule → OpName → Option Violation → Option Violation
broken_or None name later = later
broken_or (Some r) name later = Some (record { rule = r; op = name })

abbrev pub first_broken : Module → List OpName → List Placed → Option Violation
first_broken m before [] = None
first_broken m before (p ∷ ps) =
    broken_or (first_false (rules_kept m before p)) p.tree.name (first_broken m (p.tree.name ∷ before) ps)

-- the first operation in preorder that breaks a rule, with the first rule that it breaks
abbrev pub first_violation : Module → Option Violation
first_violation m = first_broken m [] (placed m)
