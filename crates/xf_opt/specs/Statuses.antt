-- The statuses: the table of the ends of a call as their numbers tell them.
use Rattle.std.specs.Prelude.{◌≡◌, ◌==◌, ℕ, List, [], ◌∷◌, Option, Some, None, IsSome, IfSome, find}
use Rattle.xf_span.specs.declared.code.Code.{Code}
use Rattle.xf_span.specs.declared.code.Code.TheVariants as code
use Rattle.xf_span.specs.declared.fault.Fault.{Fault}
use Rattle.xf_span.specs.Fault.{plain_fault}
use Rattle.xf_opt.specs.Stages.{End, well, at, anywhere}
use Rattle.xf_opt.specs.Stages as stage
use Rattle.xf_opt.specs.Paths.{IsScriptPath, IsPayloadPath, IsFaulty}
use Rattle.xf_opt.specs.Words.{Asked}

-- the fault of a call: none, the one that has this code and no more, or the one that was found in a file
pub data Cause : Type 0 where
  no_fault : Cause
  plain : Code → Cause
  found : Cause

-- the path that the line of the fault names: none, one whose count of faults rose, or that of the script or the payload
pub data Named : Type 0 where
  no_path : Named
  faulty_path : Named
  script_path : Named
  payload_path : Named

pub record Status : Type 0 where
  pub number : ℕ
  pub ending : End
  pub cause : Cause
  pub named : Named

abbrev pub status : ℕ → End → Cause → Named → Status
status number ending cause named = record { number = number; ending = ending; cause = cause; named = named }

-- all statuses
abbrev pub statuses : List Status
statuses =
    status 0 well no_fault no_path
    ∷ status 1 (at stage.words) (plain code.Words) no_path
    ∷ status 2 (at stage.reads) (plain code.ReadFailed) faulty_path
    ∷ status 3 (at stage.write) (plain code.WriteFailed) no_path
    ∷ status 4 (at stage.payload) found payload_path
    ∷ status 5 (at stage.script) (plain code.N1) script_path
    ∷ status 9 anywhere (plain code.OutOfMemory) no_path
    ∷ []

-- the status of a number
abbrev pub status_at : ℕ → Option Status
status_at number = find (λ s. s.number == number) statuses

-- the numbers of statuses
abbrev pub IsStatus : ℕ → Type 0
IsStatus number = IsSome (status_at number)

abbrev pub ending_of : Option Status → End
ending_of None = anywhere
ending_of (Some s) = s.ending

-- where a call with the status of this number ended
abbrev pub ending : ℕ → End
ending number = ending_of (status_at number)

-- ---- the fault, and the path that its line names

abbrev pub IsCausedBy : Cause → Option Fault → Type 0
IsCausedBy no_fault fault = fault ≡ None
IsCausedBy (plain c) fault = fault ≡ Some (plain_fault c)
IsCausedBy found fault = IsSome fault

-- the fault of a call that ends with the status of this number
abbrev pub FaultIs : ℕ → Option Fault → Type 0
FaultIs number fault = IfSome (status_at number) (λ s. IsCausedBy s.cause fault)

abbrev pub IsNamed : Named → Option Asked → (List ℕ → ℕ) → (List ℕ → ℕ) → List ℕ → Type 0
IsNamed no_path asked before after path = path ≡ []
IsNamed faulty_path asked before after path = IsFaulty asked before after path
IsNamed script_path asked before after path = IsScriptPath asked path
IsNamed payload_path asked before after path = IsPayloadPath asked path

-- the path that the line of a call with the status of this number names; empty where it names none
abbrev pub IsTold : Option Asked → (List ℕ → ℕ) → (List ℕ → ℕ) → ℕ → List ℕ → Type 0
IsTold asked before after number path = IfSome (status_at number) (λ s. IsNamed s.named asked before after path)
