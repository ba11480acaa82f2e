-- Laws of valid modules, of edits and of erasing what may be erased.
use Rattle.std.specs.Prelude.{◌≡◌, ℕ, ◌+◌, ◌++◌, ◌<◌, ◌≤◌, ◌↔◌, List, Option, None}
use Rattle.xf_type.specs.declared.attribute.AttrValue.{AttrValue}
use Rattle.xf_ir.specs.declared.kind.Attr.{Attr}
use Rattle.xf_ir.specs.declared.name.OpName.{OpName}
use Rattle.xf_ir.specs.declared.edit.Edit.{Edit}
use Rattle.xf_ir.specs.declared.edit.Edit.TheVariants.{Erase}
use Rattle.xf_ir.specs.declared.op.Module.{Module}
use Rattle.xf_ir.specs.Bounds.{ListsAreShort}
use Rattle.xf_ir.specs.Count.{tree_count}
use Rattle.xf_ir.specs.Limits.{IsWithinLimits}
use Rattle.xf_ir.specs.Places.{FunctionsScoped}
use Rattle.xf_ir.specs.Valid.{IsNamedOnce, SeesItsUses, IsValid, functions_of}
use Rattle.xf_ir.specs.Attributes.{IsSortedByName, attr_set}
use Rattle.xf_ir.specs.Edits.{edited, inverse_of, replayed, inverses_of, FitsEdit, FitEdits}
use Rattle.xf_ir.specs.Violations.{first_violation}
use Rattle.xf_ir.specs.Choices.{MayErase, weight_at}
use Rattle.xf_ir.specs.Lists.{Each}
use Rattle.xf_ir.specs.Renamed.{IsRenamed}
use Rattle.xf_ir.specs.Walk.{tree_names}

-- in a valid module each operand is visible where it stands, and each value is defined once among those that are
-- visible
abbrev pub ValidIsScoped : Type 0
ValidIsScoped = (m : Module) → IsValid m → FunctionsScoped (functions_of m)

-- a module is valid exactly where no operation breaks a rule
abbrev pub ValidHasNoViolation : Type 0
ValidHasNoViolation = (m : Module) → IsValid m ↔ (first_violation m ≡ None)

-- what may be erased is erased by an edit that fits the module
abbrev pub ErasingFits : Type 0
ErasingFits =
    (m : Module) (target name : OpName) → IsValid m → MayErase m target name →
    FitsEdit m (Erase name)

-- and leaves a valid module
abbrev pub ErasingKeepsValid : Type 0
ErasingKeepsValid =
    (m : Module) (target name : OpName) → IsValid m → MayErase m target name →
    IsValid (edited m (Erase name))

-- it lowers the weight of the scope
abbrev pub ErasingLowersWeight : Type 0
ErasingLowersWeight =
    (m : Module) (target name : OpName) → IsValid m → MayErase m target name →
    weight_at (edited m (Erase name)) target + 1 ≤ weight_at m target

-- and the number of operations
abbrev pub ErasingLowersCount : Type 0
ErasingLowersCount =
    (m : Module) (target name : OpName) → IsValid m → MayErase m target name →
    tree_count (edited m (Erase name)).root < tree_count m.root

-- it leaves lists that are short
abbrev pub ErasingKeepsListsShort : Type 0
ErasingKeepsListsShort = (m : Module) (name : OpName) → ListsAreShort m → ListsAreShort (edited m (Erase name))

-- and a module within the limits
abbrev pub ErasingKeepsLimits : Type 0
ErasingKeepsLimits = (m : Module) (name : OpName) → IsWithinLimits m → IsWithinLimits (edited m (Erase name))

-- where names occur once, the inverse of an edit that fits leads back to the module's tree
abbrev pub InverseLeadsBack : Type 0
InverseLeadsBack =
    (m : Module) (e : Edit) → IsNamedOnce m → FitsEdit m e →
    (edited (edited m e) (inverse_of m e)).root ≡ m.root

-- and fits the edited module, where each use was of a visible value
abbrev pub InverseFits : Type 0
InverseFits =
    (m : Module) (e : Edit) → IsNamedOnce m → SeesItsUses m → FitsEdit m e →
    FitsEdit (edited m e) (inverse_of m e)

-- edits are replayed by replaying some of them and then the others
abbrev pub ReplayingComposes : Type 0
ReplayingComposes = (m : Module) (es fs : List Edit) → replayed m (es ++ fs) ≡ replayed (replayed m es) fs

-- where each edit fits what the former ones left, so does each inverse, the last edit's first
abbrev pub InversesFit : Type 0
InversesFit =
    (m : Module) (es : List Edit) → IsNamedOnce m → SeesItsUses m → FitEdits m es →
    FitEdits (replayed m es) (inverses_of m es)

-- and the inverses lead back to the module's tree
abbrev pub InversesLeadBack : Type 0
InversesLeadBack =
    (m : Module) (es : List Edit) → IsNamedOnce m → SeesItsUses m → FitEdits m es →
    (replayed (replayed m es) (inverses_of m es)).root ≡ m.root

-- an attribute that is given a value or taken away leaves attributes sorted by their names
abbrev pub SettingKeepsSorted : Type 0
SettingKeepsSorted =
    (key : List ℕ) (value : Option AttrValue) (ds : List Attr) → IsSortedByName ds →
    IsSortedByName (attr_set key value ds)

-- a valid module stays valid under other names that are below its next one
abbrev pub RenamingKeepsValid : Type 0
RenamingKeepsValid = (m again : Module) → IsValid m → IsRenamed m again
    → Each (λ n. n.0 < again.next) (tree_names again.root) → IsValid again
