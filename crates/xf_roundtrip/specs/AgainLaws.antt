-- The printed form of a module spells a valid one again.
use Rattle.std.specs.Prelude.{ℕ, List}
use Rattle.xf_ir.specs.declared.op.Module.{Module}
use Rattle.xf_ir.specs.Valid.{IsNamedOnce, IsValid}
use Rattle.xf_printed.specs.PrintedForm.{printed_form}
use Rattle.xf_read.specs.Spells.{Spells}
use Rattle.xf_ir.specs.Limits.{IsWithinLimits}
use Rattle.xf_ir.specs.Renamed.{IsRenamed}
use Rattle.xf_print_laws.specs.Stored.{IsStored}

-- a module that a text spells names each of its operations once
abbrev pub SpeltIsNamedOnce : Type 0
SpeltIsNamedOnce = (bytes : List ℕ) (m : Module) → Spells bytes m → IsNamedOnce m

-- the printed form of a valid module spells it again, up to the names of operations, and what it spells is valid
abbrev pub PrintedIsValidAgain : Type 0
PrintedIsValidAgain = (m : Module) → IsValid m → IsStored m → IsWithinLimits m
    → (again : Module) × (Spells (printed_form m) again × (IsRenamed m again × IsValid again))
