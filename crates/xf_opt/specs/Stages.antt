-- The stages of a call, in order, and what the end of a call says of each.
use Rattle.std.specs.Prelude.{◌≡◌, ◌<◌, ◌⊎◌, ℕ, ⊤}

-- what a call does, in this order: it reads the words and the files, judges the script and the payload, judges the uses
-- of handles, runs the script and writes the text
pub data Stage : Type 0 where
  words : Stage
  reads : Stage
  script : Stage
  payload : Stage
  uses : Stage
  run : Stage
  write : Stage

-- the place of a stage in that order
abbrev pub rank : Stage → ℕ
rank words = 0
rank reads = 1
rank script = 2
rank payload = 3
rank uses = 4
rank run = 5
rank write = 6

-- where a call ends: well, past all stages; at the first stage whose condition fails; or for want of memory, at any
pub data End : Type 0 where
  well : End
  at : Stage → End
  anywhere : End

-- the call got past a stage, so that its condition held
abbrev pub IsPast : Stage → End → Type 0
IsPast stage well = ⊤
IsPast stage (at last) = rank stage < rank last
IsPast stage anywhere = ⊥

-- the call ended at a stage, since its condition failed
abbrev pub EndsAt : Stage → End → Type 0
EndsAt stage well = ⊥
EndsAt stage (at last) = rank stage ≡ rank last
EndsAt stage anywhere = ⊥

-- the call ended before it came to a stage, since the condition of an earlier one failed
abbrev pub EndsBefore : Stage → End → Type 0
EndsBefore stage well = ⊥
EndsBefore stage (at last) = rank last < rank stage
EndsBefore stage anywhere = ⊥

-- all conditions held, and the text was written
abbrev pub EndsWell : End → Type 0
EndsWell well = ⊤
EndsWell (at last) = ⊥
EndsWell anywhere = ⊥

-- memory was refused
abbrev pub EndsAnywhere : End → Type 0
EndsAnywhere well = ⊥
EndsAnywhere (at last) = ⊥
EndsAnywhere anywhere = ⊤

-- what an end says of a stage: past it the condition held; a call that ended there has the cause; and whatever the end,
-- nothing was written unless the condition held
pub record Judges (stage : Stage) (end : End) (Holds Cause Untouched : Type 0) : Type 0 where
  pub past : IsPast stage end → Holds
  pub ended : EndsAt stage end → Cause
  pub written : Untouched ⊎ Holds
