-- Edits of a module, as changes of its tree.
use Rattle.std.specs.Prelude.{◌≡◌, ℕ, ◌+◌, ◌-◌, ◌^◌, List, [], ◌∷◌, ◌++◌, length, map, slice_get, Option}
use Rattle.std.specs.Prelude.{None, Some, Bool, true, false, min, nat_lt, ◌==◌, if◌then◌else◌}
use Rattle.xf_ir.specs.declared.name.OpName.{OpName}
use Rattle.xf_ir.specs.declared.edit.Edit.{Edit}
use Rattle.xf_ir.specs.declared.edit.Edit.TheVariants.{Insert, Erase, ReplaceUses, Replace, Restore, Move, SetAttr}
use Rattle.xf_ir.specs.declared.op.Module.{Module}
use Rattle.xf_ir.specs.Tree.{Ops, no_ops, op, Regions, no_regions, region, Tree}
use Rattle.xf_ir.specs.declared.name.ValueName.{ValueName}
use Rattle.xf_ir.specs.declared.name.ValueName.TheVariants.{Result}
use Rattle.xf_ir.specs.declared.change.Change.{Change}
use Rattle.xf_ir.specs.declared.spot.Spot.{Spot}
use Rattle.xf_ir.specs.declared.spot.Located.{Located}
use Rattle.xf_ir.specs.Walk.{regions_find, tree_find, tree_names}
use Rattle.xf_ir.specs.Lists.{Each, is_among}
use Rattle.xf_ir.specs.Spots.{tree_locate, spot_at, spot_or, tree_put, IsSpot}
use Rattle.xf_ir.specs.Changes.{tree_changed, turned, FitsChanges, tree_attributed}
use Rattle.xf_ir.specs.Attributes.{IsSortedByName, attr_set, attr_at}
use Rattle.xf_type.specs.declared.attribute.AttrValue.{AttrValue}
use Rattle.xf_ir.specs.Defined.{is_defined_in}
use Rattle.xf_ir.specs.Valid.{IsNamedOnce, SeesItsUses}

-- where the operation of this name begins the rest of its block, that rest is changed by f
abbrev mutual
  pub ops_at : OpName → (Ops → Ops) → Ops → Ops
  ops_at name f no_ops = no_ops
  ops_at name f (op n k ds os ts rs rest) =
      if n.0 == name.0 then f (op n k ds os ts rs rest) else op n k ds os ts (regions_at name f rs) (ops_at name f rest)

  pub regions_at : OpName → (Ops → Ops) → Regions → Regions
  regions_at name f no_regions = no_regions
  regions_at name f (region args ops rest) = region args (ops_at name f ops) (regions_at name f rest)

-- what stands behind the first operation
abbrev pub tail : Ops → Ops
tail no_ops = no_ops
tail (op n k ds os ts rs rest) = rest

-- a tree changed inside
abbrev pub tree_at : OpName → (Ops → Ops) → Tree → Tree
tree_at name f t = record t { regions = regions_at name f t.regions }

-- a tree without one of the operations that it holds
abbrev pub tree_erased : OpName → Tree → Tree
tree_erased name t = tree_at name tail t

-- a next name above these names too; it stands still at the end of its 64 bits
abbrev pub next_above : ℕ → List OpName → ℕ
next_above next [] = next
next_above next (n ∷ ns) = next_above (if nat_lt n.0 next then next else min (n.0 + 1) (2 ^ 64 - 1)) ns

-- a tree with the operation of that name taken out and put at a spot of what is left
abbrev pub moved : OpName → Spot → Option Tree → Tree → Tree
moved name to None root = root
moved name to (Some t) root = tree_put to t (tree_erased name root)

abbrev pub tree_moved : OpName → Spot → Tree → Tree
tree_moved name to root = moved name to (regions_find name root.regions) root

-- the module after an edit
abbrev pub edited : Module → Edit → Module
edited m (Insert tree at) = record { root = tree_put at tree m.root; next = next_above m.next (tree_names tree) }
edited m (Erase name) = record m { root = tree_erased name m.root }
edited m (ReplaceUses changes) = record m { root = tree_changed changes m.root }
edited m (Replace name by changes) = record m { root = tree_erased name (tree_changed changes m.root) }
edited m (Restore tree at by changes) = record m { root = tree_changed changes (tree_put at tree m.root) }
edited m (Move name to) = record m { root = tree_moved name to m.root }
edited m (SetAttr name key value) = record m { root = tree_attributed name (attr_set key value) m.root }

abbrev pub put_back : OpName → Option Located → Edit
put_back name None = Erase name
put_back name (Some x) = Insert x.tree x.spot

abbrev pub restore : OpName → List ValueName → List Change → Option Located → Edit
restore name by changes None = Erase name
restore name by changes (Some x) = Restore x.tree x.spot by (map turned changes)

-- the edit that leads back from the edited module
abbrev pub inverse_of : Module → Edit → Edit
inverse_of m (Insert tree at) = Erase tree.name
inverse_of m (Erase name) = put_back name (tree_locate name m.root)
inverse_of m (ReplaceUses changes) = ReplaceUses (map turned changes)
inverse_of m (Replace name by changes) = restore name by changes (tree_locate name (tree_changed changes m.root))
inverse_of m (Restore tree at by changes) = Replace tree.name by (map turned changes)
inverse_of m (Move name to) = Move name (spot_or to (spot_at (tree_locate name m.root)))
inverse_of m (SetAttr name key value) = SetAttr name key (attr_at key (tree_find name m.root))

-- the module after edits, one after another
abbrev pub replayed : Module → List Edit → Module
replayed m [] = m
replayed m (e ∷ es) = replayed (edited m e) es

-- the edits that lead back from the module after edits, in their order: the inverse of the last one first
abbrev pub inverses_of : Module → List Edit → List Edit
inverses_of m [] = []
inverses_of m (e ∷ es) = inverses_of (edited m e) es ++ inverse_of m e ∷ []

-- whether an edit takes memory
abbrev pub wants_memory : Edit → Bool
wants_memory (Insert tree at) = true
wants_memory (Erase name) = false
wants_memory (ReplaceUses changes) = true
wants_memory (Replace name by changes) = true
wants_memory (Restore tree at by changes) = true
wants_memory (Move name to) = true
wants_memory (SetAttr name key value) = true

-- ---- edits that fit: each leaves a module in which names occur once and each use is of a visible value

-- the tree has new names and its spot is one of the module
pub record FitsInsert (m : Module) (tree : Tree) (at : Spot) : Type 0 where
  pub fresh : Each (λ n. is_among n (tree_names m.root) ≡ false) (tree_names tree)
  pub spot : IsSpot at m.root
  pub names : IsNamedOnce (edited m (Insert tree at))
  pub uses : SeesItsUses (edited m (Insert tree at))

-- the operation is in the module below the root
pub record FitsErase (m : Module) (name : OpName) : Type 0 where
  pub tree : Tree
  pub inside : regions_find name m.root.regions ≡ Some tree
  pub names : IsNamedOnce (edited m (Erase name))
  pub uses : SeesItsUses (edited m (Erase name))

-- the changes fit the module
pub record FitsReplaceUses (m : Module) (changes : List Change) : Type 0 where
  pub places : FitsChanges m.root changes
  pub names : IsNamedOnce (edited m (ReplaceUses changes))
  pub uses : SeesItsUses (edited m (ReplaceUses changes))

-- a result of the operation, and the value of its number among these
pub record IsReplaced (name : OpName) (by : List ValueName) (result value : ValueName) : Type 0 where
  pub num : ℕ
  pub result_is : result ≡ Result name num
  pub value_is : slice_get by num ≡ Some value

-- values in the place of results: as many, each defined under the root, and none in the tree itself
pub record FitsValues (root tree : Tree) (by : List ValueName) : Type 0 where
  pub count : length by ≡ length tree.results
  pub defined : Each (λ v. is_defined_in root v ≡ true) by
  pub outside : Each (λ v. is_defined_in tree v ≡ false) by

-- the operation is in the module below the root, and its values and the changes fit
pub record FitsReplace (m : Module) (name : OpName) (by : List ValueName) (changes : List Change) : Type 0 where
  pub tree : Tree
  pub inside : regions_find name m.root.regions ≡ Some tree
  pub values : FitsValues m.root tree by
  pub places : FitsChanges m.root changes
  pub replaced : Each (λ c. IsReplaced name by c.old c.«new») changes
  pub names : IsNamedOnce (edited m (Replace name by changes))
  pub uses : SeesItsUses (edited m (Replace name by changes))

-- the tree has new names, its spot is one of the module, and its values and the changes fit
pub record FitsRestore (m : Module) (tree : Tree) (at : Spot) (by : List ValueName) (changes : List Change)
    : Type 0 where
  pub fresh : Each (λ n. is_among n (tree_names m.root) ≡ false) (tree_names tree)
  pub spot : IsSpot at m.root
  pub values : FitsValues m.root tree by
  pub places : FitsChanges (tree_put at tree m.root) changes
  pub restored : Each (λ c. IsReplaced tree.name by c.«new» c.old) changes
  pub names : IsNamedOnce (edited m (Restore tree at by changes))
  pub uses : SeesItsUses (edited m (Restore tree at by changes))

-- the operation is in the module below the root, and its spot is one of the tree without it
pub record FitsMove (m : Module) (name : OpName) (to : Spot) : Type 0 where
  pub tree : Tree
  pub inside : regions_find name m.root.regions ≡ Some tree
  pub spot : IsSpot to (tree_erased name m.root)
  pub names : IsNamedOnce (edited m (Move name to))
  pub uses : SeesItsUses (edited m (Move name to))

-- the operation is in the module, and its attributes are sorted by their names
pub record FitsSetAttr (m : Module) (name : OpName) (key : List ℕ) (value : Option AttrValue) : Type 0 where
  pub tree : Tree
  pub found : tree_find name m.root ≡ Some tree
  pub sorted : IsSortedByName tree.attrs
  pub names : IsNamedOnce (edited m (SetAttr name key value))
  pub uses : SeesItsUses (edited m (SetAttr name key value))

-- the edit may be made in the module
abbrev pub FitsEdit : Module → Edit → Type 0
FitsEdit m (Insert tree at) = FitsInsert m tree at
FitsEdit m (Erase name) = FitsErase m name
FitsEdit m (ReplaceUses changes) = FitsReplaceUses m changes
FitsEdit m (Replace name by changes) = FitsReplace m name by changes
FitsEdit m (Restore tree at by changes) = FitsRestore m tree at by changes
FitsEdit m (Move name to) = FitsMove m name to
FitsEdit m (SetAttr name key value) = FitsSetAttr m name key value

-- each of the edits may be made in what the former ones left
abbrev pub FitEdits : Module → List Edit → Type 0
FitEdits m [] = Unit {0}
FitEdits m (e ∷ es) = FitsEdit m e × FitEdits (edited m e) es
