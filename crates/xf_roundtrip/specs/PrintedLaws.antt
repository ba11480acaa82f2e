-- The printed form of a module is laid out of tokens that the grammar of payloads writes.
use Rattle.std.specs.Prelude.{◌≡◌, ℕ, List, map, false}
use Rattle.std.specs.Str.{IsUtf8}
use Rattle.xf_lex.specs.Layout.{SpacedToken, layout, AllStay}
use Rattle.xf_grammar.specs.Layout.{terminals_plain}
use Rattle.xf_ir.specs.declared.op.Module.{Module}
use Rattle.xf_ir.specs.Limits.{IsWithinLimits}
use Rattle.xf_ir.specs.Valid.{IsValid}
use Rattle.xf_printed.specs.PrintedForm.{printed_form}
use Rattle.xf_read.specs.Spells.{Spells}
use Rattle.xf_syntax.specs.Telling.{SaidNodes}
use Rattle.xf_syntax.specs.Written.{IsWritten}
use Rattle.xf_print_laws.specs.Stored.{IsStored}
use Rattle.xf_print_laws.specs.SaidPrinted.{printed_said}
use Rattle.xf_ir.specs.Renamed.{IsRenamed}

-- a text is laid out, of tokens that the grammar writes as operations that say so much
abbrev pub HasLayout : List ℕ → SaidNodes → Type 0
HasLayout text ns = (ws : List SpacedToken) × ((tail : List ℕ) × ((layout ws tail ≡ text)
    × (AllStay false ws tail × (IsUtf8 (layout ws tail) × IsWritten (terminals_plain (map (λ w. w.token) ws)) ns))))

-- the printed form of a valid module is laid out, and says what `printed_said` tells
abbrev pub PrintedHasLayout : Type 0
PrintedHasLayout = (m : Module) → IsValid m → IsStored m → IsWithinLimits m
    → HasLayout (printed_form m) (printed_said m)

-- and it spells the module again, up to the names of operations
abbrev pub PrintedIsSpelt : Type 0
PrintedIsSpelt = (m : Module) → IsValid m → IsStored m → IsWithinLimits m
    → (again : Module) × (Spells (printed_form m) again × IsRenamed m again)
