-- A text means what it says.
use Rattle.std.specs.Prelude.{◌≡◌, ◌↔◌, ℕ, List, map, false, true}
use Rattle.std.specs.Str.{IsUtf8}
use Rattle.xf_lex.specs.declared.token.Token.{Token}
use Rattle.xf_lex.specs.Layout.{SpacedToken, layout, AllStay}
use Rattle.xf_grammar.specs.Layout.{terminals_plain}
use Rattle.xf_ir.specs.declared.op.Module.{Module}
use Rattle.xf_syntax.specs.declared.tree.File.{File}
use Rattle.xf_read.specs.Meant.{file_faults, said_meant}
use Rattle.xf_read.specs.Names.{no_faults}
use Rattle.xf_read.specs.Spells.{Spells}
use Rattle.xf_syntax.specs.Telling.{SaidNodes}
use Rattle.xf_syntax.specs.Written.{file_said, IsWritten}
use Rattle.xf_roundtrip.specs.Printable.{IsPrintable}
use Rattle.xf_ir.specs.Renamed.{IsRenamed}
use Rattle.xf_print_laws.specs.SaidPrinted.{printed_said}
use Rattle.xf_roundtrip.specs.SaidWell.{said_well}

-- no check of names or types finds a fault exactly where what the tokens say is right
abbrev pub TokensAreRightAsTheySay : Type 0
TokensAreRightAsTheySay = (all : List Token) (file : File)
    → (file_faults all file ≡ no_faults) ↔ (said_well (file_said all file) ≡ true)

-- a text that is laid out, of tokens that are written and say what is right, and blanks behind them, spells the module
-- that they say
abbrev pub TextsMeanWhatTheySay : Type 0
TextsMeanWhatTheySay = (ws : List SpacedToken) (tail : List ℕ) (ns : SaidNodes)
    → AllStay false ws tail → IsUtf8 (layout ws tail) → IsWritten (terminals_plain (map (λ w. w.token) ws)) ns
    → said_well ns ≡ true → Spells (layout ws tail) (said_meant ns)

-- what the printed form of a module says is right, and it is the module again, with other names of operations
abbrev pub PrintedSaysTheModule : Type 0
PrintedSaysTheModule = (m : Module) → IsPrintable m
    → (said_well (printed_said m) ≡ true) × IsRenamed m (said_meant (printed_said m))
