-- Which files a command accepts, which it refuses, and what the end of a call says of them.
use Rattle.std.specs.Prelude.{◌≡◌, ◌≤◌, ◌⊎◌, ℕ, List, length, Option, Some, true, false}
use Rattle.xf_span.specs.declared.code.Code.TheVariants as code
use Rattle.xf_span.specs.declared.fault.Fault.{Fault}
use Rattle.xf_span.specs.Fault.{fault_at}
use Rattle.xf_ir.specs.declared.op.Module.{Module}
use Rattle.xf_span.specs.Place.{first_place}
use Rattle.xf_text.specs.Script.{IsScript}
use Rattle.xf_span.specs.Limit.{file_limit}
use Rattle.xf_payload.specs.Payload.{IsPayload, IsNoPayload}
use Rattle.xf_opt.specs.Form.{is_first_form}
use Rattle.xf_opt.specs.Stages.{End, Judges}
use Rattle.xf_opt.specs.Stages as stage
use Rattle.xf_opt.specs.Words.{Asked, run, verify, print}

-- ---- single files

-- a file is the schedule of the first form
pub record IsScriptFile (file : List ℕ) : Type 0 where
  pub fits : length file ≤ file_limit
  pub is : IsScript file

-- a file holds a payload of the form that a run takes
pub record IsRunnable (file : List ℕ) (m : Module) : Type 0 where
  pub holds : IsPayload file m
  pub form : is_first_form m ≡ true

-- a file holds another payload, which is told at its first place
pub record IsOutside (file : List ℕ) (f : Fault) : Type 0 where
  pub payload : Module
  pub holds : IsPayload file payload
  pub form : is_first_form payload ≡ false
  pub is : f ≡ fault_at code.N1 first_place

-- ---- by commands

-- a payload's file is refused with this fault
abbrev pub Refuses : Asked → List ℕ → Fault → Type 0
Refuses (run script payload) file f = IsNoPayload file f ⊎ IsOutside file f
Refuses (verify payload) file f = IsNoPayload file f
Refuses (print payload) file f = IsNoPayload file f

-- or it is accepted
abbrev pub Accepts : Asked → List ℕ → Type 0
Accepts (run script payload) file = (m : Module) × IsRunnable file m
Accepts (verify payload) file = (m : Module) × IsPayload file m
Accepts (print payload) file = (m : Module) × IsPayload file m

-- the fault of the call is one for which the file is refused
abbrev pub RefusesWith : Option Fault → Asked → List ℕ → Type 0
RefusesWith fault asked file = (f : Fault) × ((fault ≡ Some f) × Refuses asked file f)

-- ---- what an end says of the files, where what was written went from old to new

abbrev pub JudgesScript : End → Option (List ℕ) → Option (List ℕ) → List ℕ → Type 0
JudgesScript end old new file =
    Judges stage.script end (IsScriptFile file) (IsScriptFile file → ⊥) (new ≡ old)

abbrev pub JudgesPayload : End → Option Fault → Option (List ℕ) → Option (List ℕ) → Asked → List ℕ → Type 0
JudgesPayload end fault old new asked file =
    Judges stage.payload end (Accepts asked file) (RefusesWith fault asked file) (new ≡ old)
