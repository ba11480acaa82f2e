-- How far a reading looks, and texts that agree up to there.
use Rattle.std.specs.Prelude.{◌≡◌, ℕ, suc, ◌<◌, ◌≤◌, List, Ok, Err}
use Rattle.xf_lex.specs.declared.token.Token.{Token}
use Rattle.xf_grammar.specs.Tokens.{terminal_at}
use Rattle.xf_grammar.specs.Reading.{Out}

-- the same is seen of the first n tokens; a text that ends before shows its end
abbrev pub Agree : ℕ → List Token → List Token → Type 0
Agree n all us = (i : ℕ) → i < n → terminal_at us i ≡ terminal_at all i

-- the last token that a reading looks at
abbrev pub reach : {A D : Type 0} → Out A D → ℕ
reach (Ok x) = x.1
reach (Err e) = e.0

-- a reading from a number on goes the same way in each text that agrees through the last token that it looks at
pub record BoundedLookahead {A D : Type 0} (all : List Token) (at : ℕ) (r : List Token → Out A D) : Type 0 where
  pub forward : at ≤ reach (r all)
  pub same : (us : List Token) → Agree (suc (reach (r all))) all us → r us ≡ r all
