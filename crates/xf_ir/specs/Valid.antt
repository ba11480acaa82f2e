-- A valid module: the rules, one fact for each.
use Rattle.std.specs.Prelude.{◌≡◌, ℕ, suc, ◌<◌, List, [], ◌∷◌, ◌++◌, length, true, false}
use Rattle.xf_ir.specs.declared.name.OpName.{OpName}
use Rattle.xf_ir.specs.declared.kind.Kind.{Kind}
use Rattle.xf_ir.specs.declared.op.Module.{Module}
use Rattle.xf_ir.specs.Tree.{Ops, no_ops, op, Regions, no_regions, region}
use Rattle.xf_ir.specs.Walk.{tree_names}
use Rattle.xf_ir.specs.Kinds.{symbol_of, is_container, is_module, is_function}
use Rattle.xf_ir.specs.Lists.{Each, Once, TextsOnce, item_before}
use Rattle.xf_ir.specs.Places.{Seen, done, inside, AllSeen}
use Rattle.xf_ir.specs.Calls.{signatures, has_its_callee, has_short_chains}
use Rattle.xf_ir.specs.RuleBlocks.{has_its_regions, ends_its_blocks}
use Rattle.xf_ir.specs.RuleTypes.{has_its_types}
use Rattle.xf_ir.specs.RuleAttributes.{has_its_attributes, has_types_in_range}
use Rattle.xf_ir.specs.RuleLinalg.{has_its_maps, has_its_iterators, has_its_reduction, has_its_extents, fits_its_body}
use Rattle.xf_ir.specs.RuleSlices.{has_its_slices}
pub use Rattle.xf_ir.specs.Placed.{Typed, type_or, type_at, block_of, functions_of, Everywhere}

-- ---- V1: operation names occur once and are below the next one

pub record IsNamedOnce (m : Module) : Type 0 where
  pub once : Once (tree_names m.root)
  pub below : Each (λ n. n.0 < m.next) (tree_names m.root)

-- ---- V2: the root is a module that holds functions alone, of different names, and neither stands anywhere else

-- no module and no function
abbrev mutual
  pub OpsInner : Ops → Type 0
  OpsInner no_ops = Unit {0}
  OpsInner (op n k ds os ts rs rest) = (is_container k ≡ false) × (RegionsInner rs × OpsInner rest)

  pub RegionsInner : Regions → Type 0
  RegionsInner no_regions = Unit {0}
  RegionsInner (region args ops rest) = OpsInner ops × RegionsInner rest

abbrev pub IsFunction : Kind → Type 0
IsFunction k = is_function k ≡ true

abbrev pub IsModule : Kind → Type 0
IsModule k = is_module k ≡ true

abbrev pub FunctionsAlone : Ops → Type 0
FunctionsAlone no_ops = Unit {0}
FunctionsAlone (op n k ds os ts rs rest) = IsFunction k × (RegionsInner rs × FunctionsAlone rest)

abbrev pub BlocksAlone : Regions → Type 0
BlocksAlone no_regions = Unit {0}
BlocksAlone (region args ops rest) = FunctionsAlone ops × BlocksAlone rest

abbrev pub symbols_before : Kind → List (List ℕ) → List (List ℕ)
symbols_before k more = item_before (symbol_of k) more

-- the symbols of functions, in order
abbrev pub symbols_of : Ops → List (List ℕ)
symbols_of no_ops = []
symbols_of (op n k ds os ts rs rest) = symbols_before k (symbols_of rest)

abbrev pub symbols_in : Regions → List (List ℕ)
symbols_in no_regions = []
symbols_in (region args ops rest) = symbols_of ops ++ symbols_in rest

pub record HoldsFunctions (m : Module) : Type 0 where
  pub root : IsModule m.root.kind
  pub alone : BlocksAlone m.root.regions
  pub names : TextsOnce (symbols_in m.root.regions)

-- ---- V5: each operand is visible: defined earlier in its block or in an enclosing one, within one function

abbrev mutual
  pub OpsSee : List Seen → Ops → Type 0
  OpsSee ss no_ops = Unit {0}
  OpsSee ss (op n k ds os ts rs rest) = AllSeen ss os × (RegionsSee ss n 0 rs × OpsSee (done n (length ts) ∷ ss) rest)

  pub RegionsSee : List Seen → OpName → ℕ → Regions → Type 0
  RegionsSee ss n i no_regions = Unit {0}
  RegionsSee ss n i (region args ops rest) = OpsSee (inside n i (length args) ∷ ss) ops × RegionsSee ss n (suc i) rest

-- each function sees its own values alone
abbrev pub FunctionsSee : Ops → Type 0
FunctionsSee no_ops = Unit {0}
FunctionsSee (op n k ds os ts rs rest) = AllSeen [] os × (RegionsSee [] n 0 rs × FunctionsSee rest)

pub record SeesItsUses (m : Module) : Type 0 where
  pub root : AllSeen [] m.root.operands
  pub functions : FunctionsSee (functions_of m)

-- ---- all of them

-- a valid module
pub record IsValid (m : Module) : Type 0 where
  -- V1: operation names occur once and are below the next one
  pub names : IsNamedOnce m
  -- V2: the root is a module that holds functions alone, of different names, and neither stands anywhere else
  pub functions : HoldsFunctions m
  -- V3: each operation has the regions of its row, and each region the block arguments of its row and their types
  pub regions : Everywhere has_its_regions m
  -- V4: each block ends in its row's terminator, and none stands elsewhere
  pub blocks : Everywhere ends_its_blocks m
  -- V5: each operand is visible where it stands
  pub uses : SeesItsUses m
  -- V6: numbers and types of operands, results and yielded values fit the row
  pub types : Everywhere (has_its_types (signatures m)) m
  -- V7: symbols and attributes fit
  pub attributes : Everywhere has_its_attributes m
  -- V8: each callee exists, and the results of its call are what it returns
  pub callees : Everywhere (has_its_callee (signatures m)) m
  -- V9: no call lies on a cycle of calls, and no chain of calls passes 32 functions
  pub chains : Everywhere (has_short_chains (functions_of m)) m
  -- V10: maps are projected permutations that fit iterators and operands, and each dimension is in some map
  pub maps : Everywhere has_its_maps m
  -- V11: a dimension is parallel exactly where the out map has it
  pub iterators : Everywhere has_its_iterators m
  -- V12: with a reduction the body joins the out argument and a value that does not depend on it
  pub reductions : Everywhere has_its_reduction m
  -- V13: fixed extents of one dimension agree
  pub extents : Everywhere has_its_extents m
  -- V14: a linalg body holds arith operations and its yield alone
  pub bodies : Everywhere fits_its_body m
  -- V15: ranks are at most 8, fixed dimensions below 2 ^ 31
  pub ranges : Everywhere has_types_in_range m
  -- V16: slices keep rank and element type, and sizes fit the smaller type
  pub slices : Everywhere has_its_slices m
