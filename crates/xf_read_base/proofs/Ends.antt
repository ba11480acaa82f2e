-- Behind the last token stands the end.
use Rattle.std.proofs.Common.{◌≡◌, ℕ, zero, suc, ◌≤◌, List, [], ◌∷◌, length, refl, arith}
use Rattle.xf_lex.specs.declared.token.Token.{Token}
use Rattle.xf_grammar.specs.Tokens.{the_end, terminal_at}

pub seen_past : (all : List Token) (at : ℕ) → length all ≤ at → terminal_at all at ≡ the_end
seen_past [] zero le = refl
seen_past [] (suc n) le = refl
seen_past (t ∷ ts) zero le = absurd (omega arith)
seen_past (t ∷ ts) (suc n) le = seen_past ts n (omega arith)
