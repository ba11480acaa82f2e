-- The text that a command owes, and how much of it was written.
use Rattle.std.specs.Prelude.{◌≡◌, ◌⊎◌, ℕ, ◌+◌, ◌≤◌, List, length, Option, codes}
use Rattle.xf_host.specs.Writes.{Gains, GainsPrefix}
use Rattle.xf_ir.specs.declared.op.Module.{Module}
use Rattle.xf_ir.specs.Valid.{IsValid}
use Rattle.xf_ir.specs.Choices.{weight_at}
use Rattle.xf_sem.specs.Keeps.{KeepsMeaning}
use Rattle.xf_printed.specs.PrintedForm.{printed_form}
use Rattle.xf_read.specs.Spells.{Spells}
use Rattle.xf_ir.specs.Renamed.{IsRenamed}
use Rattle.xf_payload.specs.Payload.{IsPayload}
use Rattle.xf_opt.specs.declared.journal.Entry.{Entry}
use Rattle.xf_opt.specs.Files.{IsRunnable}
use Rattle.xf_opt.specs.Run.{Runs}
use Rattle.xf_opt.specs.Stages.{End, EndsAt, EndsWell, EndsAnywhere}
use Rattle.xf_opt.specs.Stages as stage
use Rattle.xf_opt.specs.Words.{Asked, run, verify, print}

-- ---- the headline

-- the payload's module, and the module that the run leaves: it keeps the meaning, and the choices are at most as many
-- as the weight of what the payload's module holds
pub record Reaches (file : List ℕ) (journal : List Entry) (after : Module) : Type 0 where
  pub before : Module
  pub holds : IsRunnable file before
  pub runs : Runs before journal after
  pub few : length journal ≤ weight_at before (record { 0 = 0 }) + 1
  pub keeps : KeepsMeaning before after
  pub valid_after : IsValid after

-- a text is the printed form of a module that the run of the script reaches from the payload with the journal, and this
-- module keeps the payload's meaning; read again the text gives it up to the names of operations, and what is read
-- keeps the payload's meaning too
pub record Headline (file : List ℕ) (journal : List Entry) (text : List ℕ) : Type 0 where
  pub after : Module
  pub reaches : Reaches file journal after
  pub is : text ≡ printed_form after
  pub again : Module
  pub spells : Spells text again
  pub renamed : IsRenamed after again
  pub valid : IsValid again
  pub same : KeepsMeaning reaches.before again

-- ---- the text of each command

-- a text that tells of a valid payload
pub record TellsOf (text_of : Module → List ℕ) (file text : List ℕ) : Type 0 where
  pub payload : Module
  pub holds : IsPayload file payload
  pub is : text ≡ text_of payload

-- the text that a command owes for a payload's file; that of a run rests on the choices that it made
abbrev pub Owes : Asked → List ℕ → List Entry → List ℕ → Type 0
Owes (run script payload) file journal text = Headline file journal text
Owes (verify payload) file journal text = TellsOf (λ m. codes "ok\n") file text
Owes (print payload) file journal text = TellsOf printed_form file text

-- ---- how much of it was written

-- the whole
abbrev pub Finishes : Asked → List ℕ → List Entry → Option (List ℕ) → Option (List ℕ) → Type 0
Finishes asked file journal old new =
    (text : List ℕ) × (Owes asked file journal text × Gains old text new)

-- a prefix
abbrev pub WritesPrefix : Asked → List ℕ → List Entry → Option (List ℕ) → Option (List ℕ) → Type 0
WritesPrefix asked file journal old new =
    (text : List ℕ) × (Owes asked file journal text × GainsPrefix old text new)

-- nothing, or a prefix of a text that is owed with some journal
abbrev pub WritesAtMost : Asked → List ℕ → Option (List ℕ) → Option (List ℕ) → Type 0
WritesAtMost asked file old new =
    (new ≡ old) ⊎ ((journal : List Entry) × WritesPrefix asked file journal old new)

-- by where the call ended: all of it, a prefix where a write failed, and for want of memory at most a prefix
pub record Writes (end : End) (journal : List Entry) (old new : Option (List ℕ))
    (asked : Asked) (file : List ℕ) : Type 0 where
  pub done : EndsWell end → Finishes asked file journal old new
  pub cut : EndsAt stage.write end → WritesPrefix asked file journal old new
  pub memory : EndsAnywhere end → WritesAtMost asked file old new
