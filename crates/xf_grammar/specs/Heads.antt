-- The head of an operation with its slots, as its fillings write it.
use Rattle.std.specs.Prelude.{◌≡◌, ℕ, List, ◌++◌, Bool, true, ◌&&◌}
use Rattle.xf_lex.specs.declared.token.Token.{Token}
use Rattle.xf_grammar.specs.Tokens.{Terminal, terminal_at}
use Rattle.xf_grammar.specs.Grammar.{Spaced, tokens_of, Fill, written, fits, first_seen, AllStand}
use Rattle.xf_grammar.specs.Tree.{Format, head_says, row_of}

-- what both write
abbrev pub head_written : {A T K D X M R V P S : Type 0} → Format A T K D X M R V P S → V → Fill → Fill → List Spaced
head_written F l p s = written F.language (F.head l) p ++ written F.language (F.slots (row_of F l p)) s

-- whether both fit before a token
abbrev pub head_fits : {A T K D X M R V P S : Type 0} → Format A T K D X M R V P S → V → Fill → Fill → Terminal → Bool
head_fits F l p s y =
    fits F.language (F.head l) p (first_seen (tokens_of (written F.language (F.slots (row_of F l p)) s)) y) F.nothing
    && fits F.language (F.slots (row_of F l p)) s y (head_says F l p)

-- so filled they stand from one number up to another
abbrev pub HeadStands : {A T K D X M R V P S : Type 0} → Format A T K D X M R V P S → List Token → V → Fill → Fill → ℕ
    → ℕ
    → Type 0
HeadStands F all l p s at next =
    AllStand all at (tokens_of (head_written F l p s)) next × (head_fits F l p s (terminal_at all next) ≡ true)
