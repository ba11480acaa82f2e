-- Readings of a list of tokens, from a number on.
use Rattle.std.specs.Prelude.{ℕ, ◌==◌, Result, Ok, Err, if◌then◌else◌}

-- what is read, and the number of the token behind it; or the number of the first token that does not fit, and what was
-- due there
abbrev pub Out : Type 0 → Type 0 → Type 0
Out A D = Result (A × ℕ) (ℕ × D)

infixl 10 ◌>>=◌
abbrev pub ◌>>=◌ : {A B D : Type 0} → Out A D → (A × ℕ → Out B D) → Out B D
(Ok x) >>= f = f x
(Err e) >>= f = Err e

-- an item begins at this token, and is one too many: that is its fault, unless it has another at this very token
abbrev pub one_too_many : {A D : Type 0} → ℕ → D → Out A D → Out A D
one_too_many at full (Ok x) = Err (at, full)
one_too_many at full (Err e) = if e.0 == at then Err e else Err (at, full)
