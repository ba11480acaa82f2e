-- The one after each number, as a list.
use Rattle.std.specs.Prelude.{◌==◌, if◌then◌else◌, ◌≡◌, ◌<◌, ℕ, zero, suc, List, [], ◌∷◌, length, slice_index}
use Rattle.std.specs.Prelude.{slice_set}

-- without `at`, which comes after `before`
abbrev pub unlinked : ℕ → ℕ → List ℕ → List ℕ
unlinked before at next = slice_set (slice_set next before (slice_index next at)) at at

-- with `at` after `before`
abbrev pub linked : ℕ → ℕ → List ℕ → List ℕ
linked before at next = slice_set (slice_set next at (slice_index next before)) before at

-- from one number over the listed ones to another
abbrev pub Path : List ℕ → ℕ → List ℕ → ℕ → Type 0
Path next from [] to = slice_index next from ≡ to
Path next from (x ∷ xs) to = (slice_index next from ≡ x) × Path next x xs to

-- `e` comes after `p` and after no other
pub record After (next : List ℕ) (p e : ℕ) : Type 0 where
  pub in_p : p < length next
  pub in_e : e < length next
  pub is : slice_index next p ≡ e
  pub only : (x : ℕ) → x < length next → slice_index next x ≡ e → x ≡ p

-- the numbers after one, up to another
abbrev pub chain : List ℕ → ℕ → ℕ → ℕ → List ℕ
chain next zero from to = []
chain next (suc fuel) from to = if slice_index next from == to then [] else slice_index next from ∷ chain next fuel
    (slice_index next from) to
