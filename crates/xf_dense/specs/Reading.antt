-- What a call returned is what the machine reads, unless memory ran out.
use Rattle.std.specs.Prelude.{◌≡◌, ⊤, ℕ, ◌+◌, ◌≤◌, List, [], ◌∷◌, length, Option, Some, None, Result, Ok, Err}
use Rattle.std.specs.Prelude.{if◌then◌else◌, nat_lt, codes, true, false}
use Rattle.xf_lex.specs.declared.token.Token.{Token}
use Rattle.xf_lex.specs.declared.token.TokenKind.TheVariants as kind
use Rattle.xf_type.specs.Limits.{most_entries}
use Rattle.xf_grammar.specs.Tokens.{Terminal, is_kind, is_word}
use Rattle.xf_grammar.specs.Grammar.{ends, fails, goes, pushed, acted_if, scan_at}
use Rattle.xf_grammar.specs.Reading.{Out, ◌>>=◌}
use Rattle.xf_dense.specs.declared.body.Body.{Body}
use Rattle.xf_dense.specs.declared.body.Literal.{Literal}
use Rattle.xf_dense.specs.declared.body.Literal.TheVariants as read
use Rattle.xf_dense.specs.declared.expected.Due.{Due}
use Rattle.xf_dense.specs.declared.expected.Due.TheVariants as due
use Rattle.xf_dense.specs.declared.expected.Stopped.{Stopped}
use Rattle.xf_dense.specs.declared.expected.Stopped.TheVariants as fault
use Rattle.xf_dense.specs.declared.state.State.{State}
use Rattle.xf_dense.specs.Actions.{Reading, free, no_body, with_literal}
use Rattle.xf_dense.specs.Machine.{Move, language, start, behind_literal}

-- the body that begins at a number, and the number of the token behind it
abbrev pub body_at : List Token → ℕ → Out Reading Due
body_at all at = scan_at language (length all) all start (free no_body) at

abbrev pub Fails : {Y : Type 0} → Stopped → Out Y Due → Type 0
Fails fault.NoMemory read = Unit {0}
Fails (fault.At i d) read = read ≡ Err (i, d)

abbrev pub Gives : {X Y : Type 0} → (X → Y × ℕ) → Result X Stopped → Out Y Due → Type 0
Gives view (Ok x) read = read ≡ Ok (view x)
Gives view (Err e) read = Fails e read

-- ---- one turn, at a token before which the machine does not end

abbrev pub Turn : Type 0
Turn = Out (State × Reading) Due

abbrev pub moved : Move → Terminal → Reading → ℕ → Turn
moved (goes gap keep next act) x h at = acted_if language act (pushed language keep at x h) at (at + 1) >>= λ y. Ok
    ((next, y.0), y.1)
moved (fails d) x h at = Err (at, d)
moved ends x h at = Err (at, due.Other)

-- the literal of one token
abbrev pub literal_at : Terminal → ℕ → Option Literal
literal_at x at =
    if is_kind kind.Integer x then Some (read.Integer false at)
    else (if is_word (codes "true") x then Some (read.Truth true)
    else (if is_word (codes "false") x then Some (read.Truth false) else None))

-- a literal is read
abbrev pub literal_read : Literal → State → Body → ℕ → Turn
literal_read l s b at =
    if nat_lt (length b.literals) most_entries then Ok ((behind_literal s.counts s, free (with_literal l b)), at + 1)
    else Err (at, due.End)

-- ---- no number is above that of the tokens

abbrev pub AtMost : ℕ → List ℕ → Type 0
AtMost at [] = ⊤
AtMost at (n ∷ ns) = (n ≤ at) × AtMost at ns

abbrev pub RankAtMost : ℕ → Option ℕ → Type 0
RankAtMost at None = ⊤
RankAtMost at (Some r) = r ≤ at

abbrev pub Within : ℕ → State → Type 0
Within at s = AtMost at s.counts × RankAtMost at s.rank
