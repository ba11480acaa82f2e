-- The line of the call's fault, and how much of it was written.
use Rattle.std.specs.Prelude.{◌≡◌, ◌≢◌, ℕ, List, Option, Some}
use Rattle.xf_host.specs.Count.{HasRisen}
use Rattle.xf_host.specs.Writes.{Gains, GainsPrefix}
use Rattle.xf_span.specs.declared.fault.Fault.{Fault}
use Rattle.xf_span.specs.Line.{line_of}
use Rattle.xf_opt.specs.declared.outcome.Told.{Told}
use Rattle.xf_opt.specs.declared.outcome.Told.TheVariants.{Whole, Failed, NoMemory}
use Rattle.xf_opt.specs.Statuses.{IsTold}
use Rattle.xf_opt.specs.Words.{Asked}

-- how much of a line was written, and that a failure has its count
abbrev pub TellsLine : Told → List ℕ → Option (List ℕ) → Option (List ℕ) → ℕ → ℕ → Type 0
TellsLine Whole line old new before after = Gains old line new
TellsLine Failed line old new before after = GainsPrefix old line new × HasRisen before after
TellsLine NoMemory line old new before after = GainsPrefix old line new

-- the line of the call's fault was told
pub record TellsFault (asked : Option Asked) (before after : List ℕ → ℕ) (status : ℕ) (fault : Option Fault)
    (told : Told) (old new : Option (List ℕ)) (faults faults' : ℕ) : Type 0 where
  pub told_fault : Fault
  pub is : fault ≡ Some told_fault
  pub path : List ℕ
  pub of : IsTold asked before after status path
  pub line : TellsLine told (line_of path told_fault) old new faults faults'

-- the line of the call's fault was told, or nothing was where the call ended well
pub record TellsEnd (asked : Option Asked) (before after : List ℕ → ℕ) (status : ℕ) (fault : Option Fault)
    (told : Told) (old new : Option (List ℕ)) (faults faults' : ℕ) : Type 0 where
  pub silent : status ≡ 0 → (told ≡ Whole) × (new ≡ old)
  pub line : status ≢ 0 → TellsFault asked before after status fault told old new faults faults'
