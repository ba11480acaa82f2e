-- The paths that the words of a call give, what their files hold, and the counts of their faults.
use Rattle.std.specs.Prelude.{◌≡◌, ◌⊎◌, ℕ, List, Option, Some, None, IfSome}
use Rattle.xf_host.specs.Count.{HasRisen}
use Rattle.xf_opt.specs.Words.{Asked, run, verify, print, script_of, payload_of}

-- ---- what files hold

-- a fact on a file, where there is a path and the file is told
abbrev pub OnFile : Option (List ℕ) → (List ℕ → Option (List ℕ)) → (List ℕ → Type 0) → Type 0
OnFile None holds P = Unit {0}
OnFile (Some path) holds P = IfSome (holds path) P

-- a fact on the script's file, where the words give a path and the file is told
abbrev pub OnScript : Option Asked → (List ℕ → Option (List ℕ)) → (List ℕ → Type 0) → Type 0
OnScript None holds P = Unit {0}
OnScript (Some asked) holds P = OnFile (script_of asked) holds P

-- a fact on a command and the payload's file, where there is one and the file is told
abbrev pub OnPayload : Option Asked → (List ℕ → Option (List ℕ)) → (Asked → List ℕ → Type 0) → Type 0
OnPayload None holds P = Unit {0}
OnPayload (Some asked) holds P = IfSome (holds (payload_of asked)) (P asked)

-- the words ask for no run of a script, in which a choice could be made
abbrev pub RunsNoScript : Option Asked → Type 0
RunsNoScript None = Unit {0}
RunsNoScript (Some (run script payload)) = ⊥
RunsNoScript (Some (verify payload)) = Unit {0}
RunsNoScript (Some (print payload)) = Unit {0}

-- ---- counts of faults

-- the path of the script, or of the payload, that the words give
abbrev pub IsScriptPath : Option Asked → List ℕ → Type 0
IsScriptPath None path = ⊥
IsScriptPath (Some asked) path = script_of asked ≡ Some path

abbrev pub IsPayloadPath : Option Asked → List ℕ → Type 0
IsPayloadPath None path = ⊥
IsPayloadPath (Some asked) path = payload_of asked ≡ path

abbrev pub IsGiven : Option Asked → List ℕ → Type 0
IsGiven asked path = IsScriptPath asked path ⊎ IsPayloadPath asked path

-- a path that the words give, whose count of faults rose
pub record IsFaulty (asked : Option Asked) (before after : List ℕ → ℕ) (path : List ℕ) : Type 0 where
  pub given : IsGiven asked path
  pub risen : HasRisen (before path) (after path)

abbrev pub HasReadFault : Option Asked → (List ℕ → ℕ) → (List ℕ → ℕ) → Type 0
HasReadFault asked before after = (path : List ℕ) × IsFaulty asked before after path

-- the counts of all paths that the words do not give stay
abbrev pub OthersStay : Option Asked → (List ℕ → ℕ) → (List ℕ → ℕ) → Type 0
OthersStay asked before after = (path : List ℕ) → (IsGiven asked path → ⊥) → after path ≡ before path
