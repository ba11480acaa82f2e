-- One turn of a list.
use Rattle.std.proofs.Common.{◌≡◌, ℕ, zero, suc, ◌+◌, ◌<◌, ◌≤◌, true, List, length, Ok, refl, arith}
use Rattle.xf_lex.specs.declared.token.Token.{Token}
use Rattle.xf_grammar.specs.Tokens.{terminal_at, is_kind, comma}
use Rattle.xf_grammar.specs.Reading.{Out}
use Rattle.xf_grammar.specs.Grammar.{more}

-- behind a comma and an item, what is left to read gives the same
pub list_turn : {A D : Type 0} (f : ℕ) (all : List Token) (item : A → ℕ → Out A D) (h h' : A) (at n : ℕ)
    → length all ≤ f + at → at < length all → is_kind comma (terminal_at all at) ≡ true → item h (at + 1) ≡ Ok (h', n)
    → at + 1 ≤ n → (k : ℕ) × ((length all ≤ k + n) × (more k all item h' n ≡ more f all item h at))
list_turn zero all item h h' at n room lt e p le = absurd (omega (arith, room, lt))
list_turn (suc f) all item h h' at n room lt e p le = (f, (omega (arith, room, le), rw (e, p) refl))
