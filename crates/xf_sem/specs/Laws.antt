-- Laws of the meaning.
use Rattle.std.specs.Prelude.{◌≡◌, ◌↔◌, ℕ, ◌*◌, ◌<◌, List, true, ℤ, pos, ◌+ℤ◌, ◌-ℤ◌, int_lt}
use Rattle.xf_type.specs.declared.payload_type.PayloadType.{PayloadType}
use Rattle.xf_ir.specs.declared.name.OpName.{OpName}
use Rattle.xf_ir.specs.declared.edit.Edit.TheVariants.{Erase}
use Rattle.xf_ir.specs.declared.op.Module.{Module}
use Rattle.xf_ir.specs.Valid.{IsValid}
use Rattle.xf_ir.specs.Edits.{edited}
use Rattle.xf_ir.specs.Choices.{MayErase}
use Rattle.xf_ir.specs.Renamed.{IsRenamed}
use Rattle.xf_sem.specs.declared.value.Value.{Value}
use Rattle.xf_sem.specs.Values.{FitTypes, fit_types}
use Rattle.xf_sem.specs.Control.{turns_of}
use Rattle.xf_sem.specs.Meaning.{Answer, gives, fails, Run, meaning}
use Rattle.xf_sem.specs.Keeps.{KeepsMeaning}

-- the test by which the meaning tells whether values fit their types
abbrev pub FittingIsTested : Type 0
FittingIsTested = (vs : List Value) (ts : List PayloadType) → (fit_types vs ts ≡ true) ↔ FitTypes vs ts

-- a module keeps its own meaning
abbrev pub KeepingIsReflexive : Type 0
KeepingIsReflexive = (m : Module) → KeepsMeaning m m

-- what keeps the meaning of a module that keeps that of another keeps that of the latter
abbrev pub KeepingComposes : Type 0
KeepingComposes = (first second third : Module) → KeepsMeaning first second → KeepsMeaning second third
    → KeepsMeaning first third

-- an operation whose results are unused may be erased
abbrev pub ErasingKeeps : Type 0
ErasingKeeps = (m : Module) (target name : OpName) → IsValid m → MayErase m target name
    → KeepsMeaning m (edited m (Erase name))

-- a valid module keeps its meaning under other names of operations
abbrev pub RenamingKeeps : Type 0
RenamingKeeps = (m m' : Module) → IsValid m → IsRenamed m m' → KeepsMeaning m m'

-- a run that stops, where it does, at an operation of another name
abbrev pub renamed_answer : {A : Type 0} → (OpName → OpName) → Answer A → Answer A
renamed_answer f (gives x) = gives x
renamed_answer f (fails n) = fails (f n)

abbrev pub renamed_run : {A : Type 0} → (OpName → OpName) → Run A → Run A
renamed_run f r = record { units = r.units; answer = renamed_answer f r.answer }

-- the meaning does not rest on names: with other names of operations a function returns the same in as many units, or
-- stops at the same operation
abbrev pub NamesDoNotMatter : Type 0
NamesDoNotMatter = (m m' : Module) (r : IsRenamed m m') (s : List ℕ) (vs : List Value) → IsValid m
    → meaning m' s vs ≡ renamed_run r.names (meaning m s vs)

-- a loop takes just the turns k for which lower + k * step, without wrapping, is below upper
abbrev pub TurnsAreCounted : Type 0
TurnsAreCounted = (lower upper : ℤ) (step k : ℕ) → 0 < step
    → (k < turns_of (upper -ℤ lower) step) ↔ (int_lt (lower +ℤ pos (k * step)) upper ≡ true)
