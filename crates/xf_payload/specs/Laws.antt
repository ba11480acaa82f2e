-- What holds of all files.
use Rattle.std.specs.Prelude.{◌≡◌, ℕ, List}
use Rattle.xf_span.specs.declared.fault.Fault.{Fault}
use Rattle.xf_ir.specs.declared.op.Module.{Module}
use Rattle.xf_payload.specs.Payload.{IsPayload, IsNoPayload}

-- a file holds one valid module at most
abbrev pub HoldsOne : Type 0
HoldsOne = (file : List ℕ) (m n : Module) → IsPayload file m → IsPayload file n → m ≡ n

-- a file has one fault at most
abbrev pub HasOneFault : Type 0
HasOneFault = (file : List ℕ) (f g : Fault) → IsNoPayload file f → IsNoPayload file g → f ≡ g

-- and not both
abbrev pub HoldsOrNot : Type 0
HoldsOrNot = (file : List ℕ) (m : Module) (f : Fault) → IsPayload file m → IsNoPayload file f → ⊥
