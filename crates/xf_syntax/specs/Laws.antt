-- What a fault's place means.
use Rattle.std.specs.Prelude.{◌≡◌, ℕ, suc, ◌<◌, List, length, Result, Ok, Err}
use Rattle.xf_lex.specs.declared.token.Token.{Token}
use Rattle.xf_grammar.specs.Lookahead.{Agree}
use Rattle.xf_format.specs.declared.expected.Stopped.{Stopped}
use Rattle.xf_format.specs.declared.expected.Stopped.TheVariants as fault
use Rattle.xf_syntax.specs.declared.tree.File.{File}
use Rattle.xf_syntax.specs.File.{file_at}

-- these tokens are a text of the syntax, and this is its tree
abbrev pub IsText : List Token → File → Type 0
IsText all file = (f : ℕ) → length all < f → file_at f all ≡ Ok (file, length all)

-- no text of the syntax agrees with these tokens through the one with this number; the end of a text is a token
abbrev pub NoTextThrough : ℕ → List Token → Type 0
NoTextThrough i all = (us : List Token) → Agree (suc i) all us → (file : File) → IsText us file → ⊥

-- a fault's place is a token that no text of the syntax has there
abbrev pub AtNoText : {A : Type 0} → Result A Stopped → List Token → Type 0
AtNoText (Ok x) all = Unit {0}
AtNoText (Err fault.NoMemory) all = Unit {0}
AtNoText (Err (fault.At i d)) all = NoTextThrough i all
