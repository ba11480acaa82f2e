-- The first closing brace from a token on.
use Rattle.std.proofs.Common.{◌≡◌, ℕ, zero, suc, ◌+◌, ◌<◌, true, false, List, [], ◌∷◌, length, drop, refl, arith}
use Rattle.xf_lex.specs.declared.token.Token.{Token}
use Rattle.xf_grammar.specs.Tokens.{terminal_at, is_kind, close_brace}
use Rattle.xf_read_base.specs.Spelt.{behind_brace}

pub closes : (ts : List Token) (i at : ℕ) → is_kind close_brace (terminal_at ts i) ≡ true
    → behind_brace (drop i ts) at ≡ at + 1
closes [] zero at e = absurd (let z : false ≡ true = e in cc)
closes [] (suc i) at e = absurd (let z : false ≡ true = e in cc)
closes (t ∷ ts) zero at e = rw e refl
closes (t ∷ ts) (suc i) at e = closes ts i at e

pub goes_on : (ts : List Token) (i j at : ℕ) → i < length ts → j ≡ i + 1
    → is_kind close_brace (terminal_at ts i) ≡ false
    → behind_brace (drop i ts) at ≡ behind_brace (drop j ts) (at + 1)
goes_on [] i j at lt next e = absurd (omega arith)
goes_on (t ∷ ts) i zero at lt next e = absurd (omega arith)
goes_on (t ∷ ts) zero (suc zero) at lt next e = rw e refl
goes_on (t ∷ ts) zero (suc (suc j)) at lt next e = absurd (omega arith)
goes_on (t ∷ ts) (suc i) (suc j) at lt next e = goes_on ts i j at (omega arith) (omega arith) e
