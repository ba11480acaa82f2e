-- Symbols that are in a set, and those that are new there.
use Rattle.std.specs.Prelude.{ℕ, List, [], ◌∷◌, Bool, true, false, not, ◌&&◌, ◌||◌}
use Rattle.std.specs.BTreeSet.{BTreeSet, contains_by}
use Rattle.std.specs.Cmp.Lexicographic.{slice_cmp}
use Rattle.std.specs.Ordering.{nat_cmp}
use Rattle.std.specs.Str.{bytes_eq}
use denote.Ref.{Bor}

abbrev pub Symbols : Type 0
Symbols = List ℕ → Bool

abbrev pub no_symbols : Symbols
no_symbols s = false

abbrev pub symbols_seen : BTreeSet (Bor (List ℕ)) → Symbols
symbols_seen set s = contains_by (λ k. slice_cmp nat_cmp s k.now) set

abbrev pub with_symbol : List ℕ → Symbols → Symbols
with_symbol s seen t = bytes_eq s t || seen t

abbrev pub with_symbols : List (List ℕ) → Symbols → Symbols
with_symbols [] seen = seen
with_symbols (s ∷ ss) seen = with_symbols ss (with_symbol s seen)

-- whether these symbols are different, and none of them is there
abbrev pub new_symbols : Symbols → List (List ℕ) → Bool
new_symbols seen [] = true
new_symbols seen (s ∷ ss) = not (seen s) && new_symbols (with_symbol s seen) ss
