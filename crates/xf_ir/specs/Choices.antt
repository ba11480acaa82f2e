-- The choices of a rewriting step: what may be changed next in a scope.
use Rattle.std.specs.Prelude.{◌≡◌, ℕ, ◌+◌, List, [], ◌∷◌, length, Option, Some, None}
use Rattle.std.specs.Prelude.{Bool, false, true, ◌||◌, ◌==◌, if◌then◌else◌}
use Rattle.xf_ir.specs.declared.name.OpName.{OpName}
use Rattle.xf_ir.specs.declared.kind.Kind.{Kind}
use Rattle.xf_ir.specs.declared.kind.Kind.TheVariants as kind
use Rattle.xf_ir.specs.declared.edit.Edit.TheVariants.{Erase}
use Rattle.xf_ir.specs.declared.op.Module.{Module}
use Rattle.xf_ir.specs.Tree.{Ops, no_ops, op, Regions, no_regions, region, Tree}
use Rattle.xf_ir.specs.Walk.{tree_find, regions_find, regions_names}
use Rattle.xf_ir.specs.Lists.{Each, same_name, is_among}
use Rattle.xf_ir.specs.Places.{results_of}
use Rattle.xf_ir.specs.Kinds.{is_container, is_terminator, is_generic}
use Rattle.xf_ir.specs.Uses.{tree_operands}
use Rattle.xf_ir.specs.Edits.{edited}

-- ---- the scope of a target, for choices of each kind

-- without the bodies of linalg.generic
abbrev mutual
  pub ops_bare : Ops → Ops
  ops_bare no_ops = no_ops
  ops_bare (op n k ds os ts rs rest) =
      op n k ds os ts (if is_generic k then no_regions else regions_bare rs) (ops_bare rest)

  pub regions_bare : Regions → Regions
  regions_bare no_regions = no_regions
  regions_bare (region args ops rest) = region args (ops_bare ops) (regions_bare rest)

abbrev pub bare : Tree → Tree
bare t = record t { regions = if is_generic t.kind then no_regions else regions_bare t.regions }

abbrev pub scope_of : Option Tree → Regions
scope_of None = no_regions
scope_of (Some t) = t.regions

-- the scope of a target: all operations strictly inside it, without those inside the body of a linalg.generic
abbrev pub scope_at : Module → OpName → Regions
scope_at m target = scope_of (tree_find target (bare m.root))

-- whether a name is one of the scope's
abbrev pub is_in_scope : Module → OpName → OpName → Bool
is_in_scope m target name = is_among name (regions_names (scope_at m target))

-- ---- conditions

-- an operation that is no terminator, no function and no module, and whose results are all unused
pub record IsDead (m : Module) (t : Tree) : Type 0 where
  pub inner : is_container t.kind ≡ false
  pub goes : is_terminator t.kind ≡ false
  pub unused : Each (λ v. results_of t.name (length t.results) v ≡ None) (tree_operands m.root)

-- ---- the table of choices: a line for each in the four definitions

-- what may be chosen at an operation
pub data Choice : Type 0 where
  -- to erase an operation that nothing uses
  unused : Choice

-- its number in a journal
abbrev pub numbered : Choice → ℕ
numbered unused = 17

-- its condition at an operation of the module
abbrev pub Suits : Choice → Module → Tree → Type 0
Suits unused m t = IsDead m t

-- the module after it
abbrev pub chosen : Choice → Module → OpName → Module
chosen unused m name = edited m (Erase name)

-- ---- choices that apply

-- a choice applies at a name: it is of the scope, and the condition holds at its operation, as the module has it
pub record Applies (choice : Choice) (m : Module) (target name : OpName) : Type 0 where
  pub within : is_in_scope m target name ≡ true
  pub tree : Tree
  pub inside : regions_find name m.root.regions ≡ Some tree
  pub suits : Suits choice m tree

-- an operation of the scope may be erased
abbrev pub MayErase : Module → OpName → OpName → Type 0
MayErase m target name = Applies unused m target name

-- no choice of these kinds applies in the scope
abbrev pub IsNormal : List Choice → Module → OpName → Type 0
IsNormal choices m target = Each (λ choice. (name : OpName) → Applies choice m target name → ⊥) choices

-- the first of some choices that has a number
abbrev pub choice_numbered : ℕ → List Choice → Option Choice
choice_numbered number [] = None
choice_numbered number (choice ∷ choices) =
    if numbered choice == number then Some choice else choice_numbered number choices

-- what a step that erases dead code chooses from
abbrev pub dead_code : List Choice
dead_code = unused ∷ []

-- whether the first of two operations stands among these before the second
abbrev pub stands_before : OpName → OpName → List OpName → Bool
stands_before a b [] = false
stands_before a b (n ∷ ns) = if same_name n b then false else (same_name n a || stands_before a b ns)

-- none that stands before it in the scope may be erased
abbrev pub IsFirstDead : Module → OpName → OpName → Type 0
IsFirstDead m target name =
    (other : OpName) → stands_before other name (regions_names (scope_at m target)) ≡ true →
    MayErase m target other → ⊥

-- ---- the weight of a scope, which each choice but the moving of an operation lowers

abbrev pub weight_of : Kind → ℕ
weight_of (kind.Constant width bits) = 1
weight_of (kind.Dense shape numbers) = 1
weight_of _ = 2

abbrev mutual
  pub ops_weight : Ops → ℕ
  ops_weight no_ops = 0
  ops_weight (op n k ds os ts rs rest) = weight_of k + regions_weight rs + ops_weight rest

  pub regions_weight : Regions → ℕ
  regions_weight no_regions = 0
  regions_weight (region args ops rest) = ops_weight ops + regions_weight rest

-- the weight of a scope: 1 for each constant, scalar or dense, and 2 for each other operation
abbrev pub weight_at : Module → OpName → ℕ
weight_at m target = regions_weight (scope_at m target)
