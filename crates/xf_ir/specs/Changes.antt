-- Changed uses and attributes.
use Rattle.std.specs.Prelude.{◌≡◌, ℕ, ◌+◌, List, [], ◌∷◌, Option, Some, None, Bool}
use Rattle.std.specs.Prelude.{false, ◌==◌, ◌&&◌, ◌||◌, if◌then◌else◌, slice_get}
use Rattle.xf_ir.specs.declared.name.OpName.{OpName}
use Rattle.xf_ir.specs.declared.name.ValueName.{ValueName}
use Rattle.xf_ir.specs.declared.kind.Attr.{Attr}
use Rattle.xf_ir.specs.declared.change.Change.{Change}
use Rattle.xf_ir.specs.Tree.{Ops, no_ops, op, Regions, no_regions, region, Tree, Body}
use Rattle.xf_ir.specs.Walk.{tree_find}
use Rattle.xf_ir.specs.Lists.{same_name, Each}

-- ---- uses

-- whether a change is of operand i of an operation
abbrev pub is_place : OpName → ℕ → Change → Bool
is_place n i c = same_name c.op n && (c.operand == i)

-- what stands at operand i of an operation after the changes, where v stands before
abbrev pub value_changed : List Change → OpName → ℕ → ValueName → ValueName
value_changed [] n i v = v
value_changed (c ∷ cs) n i v = if is_place n i c then c.«new» else value_changed cs n i v

-- the operands of an operation from operand i on
abbrev pub operands_changed : List Change → OpName → ℕ → List ValueName → List ValueName
operands_changed cs n i [] = []
operands_changed cs n i (v ∷ vs) = value_changed cs n i v ∷ operands_changed cs n (i + 1) vs

abbrev mutual
  pub ops_changed : List Change → Ops → Ops
  ops_changed cs no_ops = no_ops
  ops_changed cs (op n k ds os ts rs rest) =
      op n k ds (operands_changed cs n 0 os) ts (regions_changed cs rs) (ops_changed cs rest)

  pub regions_changed : List Change → Regions → Regions
  regions_changed cs no_regions = no_regions
  regions_changed cs (region args ops rest) = region args (ops_changed cs ops) (regions_changed cs rest)

abbrev pub tree_changed : List Change → Tree → Tree
tree_changed cs t =
    record t { operands = operands_changed cs t.name 0 t.operands; regions = regions_changed cs t.regions }

abbrev pub body_changed : List Change → Body → Body
body_changed cs b = record b { ops = ops_changed cs b.ops }

-- the change back
abbrev pub turned : Change → Change
turned c = record c { old = c.«new»; new = c.old }

abbrev pub operand_of : Option Tree → ℕ → Option ValueName
operand_of None i = None
operand_of (Some t) i = slice_get t.operands i

-- whether a change has the same place as one of others
abbrev pub is_place_among : Change → List Change → Bool
is_place_among c [] = false
is_place_among c (d ∷ ds) = is_place c.op c.operand d || is_place_among c ds

-- no two changes have one place
abbrev pub PlacesOnce : List Change → Type 0
PlacesOnce [] = Unit {0}
PlacesOnce (c ∷ cs) = (is_place_among c cs ≡ false) × PlacesOnce cs

-- the changes fit a tree: no two have one place, and at each place stands the old value
pub record FitsChanges (root : Tree) (cs : List Change) : Type 0 where
  pub once : PlacesOnce cs
  pub old : Each (λ c. operand_of (tree_find c.op root) c.operand ≡ Some c.old) cs

-- ---- attributes

-- the attribute lists of the operations of a name, changed by f
abbrev mutual
  pub ops_attributed : OpName → (List Attr → List Attr) → Ops → Ops
  ops_attributed name f no_ops = no_ops
  ops_attributed name f (op n k ds os ts rs rest) =
      op n k (if n.0 == name.0 then f ds else ds) os ts (regions_attributed name f rs) (ops_attributed name f rest)

  pub regions_attributed : OpName → (List Attr → List Attr) → Regions → Regions
  regions_attributed name f no_regions = no_regions
  regions_attributed name f (region args ops rest) =
      region args (ops_attributed name f ops) (regions_attributed name f rest)

abbrev pub tree_attributed : OpName → (List Attr → List Attr) → Tree → Tree
tree_attributed name f t =
    record t {
      attrs = if t.name.0 == name.0 then f t.attrs else t.attrs;
      regions = regions_attributed name f t.regions;
    }

abbrev pub body_attributed : OpName → (List Attr → List Attr) → Body → Body
body_attributed name f b = record b { ops = ops_attributed name f b.ops }
