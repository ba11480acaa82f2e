-- What holds of the tokens of all texts.
use Rattle.std.specs.Prelude.{◌≡◌, ℕ, List, map, false}
use Rattle.std.specs.Str.{IsUtf8}
use Rattle.xf_span.specs.declared.fault.Fault.{Fault}
use Rattle.xf_lex.specs.declared.token.Token.{Token}
use Rattle.xf_lex.specs.Lexes.{Lexes, HasFault}
use Rattle.xf_lex.specs.Layout.{plain, SpacedToken, layout, AllStay}

-- a text has at most one list of tokens
abbrev pub OneReading : Type 0
OneReading = (bs : List ℕ) (ts us : List Token) → Lexes bs ts → Lexes bs us → ts ≡ us

-- and at most one first fault
abbrev pub OneFault : Type 0
OneFault = (bs : List ℕ) (f g : Fault) → HasFault bs f → HasFault bs g → f ≡ g

-- and not both
abbrev pub NeverBoth : Type 0
NeverBoth = (bs : List ℕ) (ts : List Token) (f : Fault) → Lexes bs ts → HasFault bs f → ⊥

-- a text that is laid out has the tokens of its pieces
abbrev pub LayoutIsRead : Type 0
LayoutIsRead = (ws : List SpacedToken) (tail : List ℕ) → AllStay false ws tail → IsUtf8 (layout ws tail)
    → (ts : List Token) × Lexes (layout ws tail) ts × (map plain ts ≡ map (λ w. w.token) ws)
