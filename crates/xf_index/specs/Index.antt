-- Which slot holds a name, found by the names with one remainder.
use Rattle.std.specs.Prelude.{◌≡◌, ℕ, ◌+◌, ◌*◌, ◌%◌, ◌/◌, ◌<◌, ◌^◌, List, [], ◌∷◌, length, slice_index}
use Rattle.std.specs.Prelude.{slice_index_or}
use Rattle.std.specs.Prelude.{Option, Some, None}

-- the name that a slot holds
abbrev pub name_at : List (Option ℕ) → ℕ → Option ℕ
name_at names s = slice_index_or names s None

-- the head of the group in which the slots of a name are
abbrev pub bucket : ℕ → ℕ → ℕ
bucket size name = 2 * (name % size) + 1

-- slot s is number 2s of the groups, and the head of bucket b is number 2b + 1
pub record IsIndex (names : List (Option ℕ)) (owner : List ℕ) : Type 0 where
  pub size : length owner ≡ 2 * length names
  pub few : length names < 2 ^ 31
  pub heads : (b : ℕ) → b < length names → slice_index owner (2 * b + 1) ≡ 2 * b + 1
  pub kept : (s x : ℕ) → s < length names → name_at names s ≡ Some x
      → slice_index owner (2 * s) ≡ bucket (length names) x
  pub loose : (s : ℕ) → s < length names → name_at names s ≡ None → slice_index owner (2 * s) ≡ 2 * s

-- with more slots, each of them free; all others hold what they held
pub record IsGrown (names more : List (Option ℕ)) : Type 0 where
  pub longer : length names < length more
  pub same : (s : ℕ) → name_at more s ≡ name_at names s

-- the slots of numbers of the groups
abbrev pub halves : List ℕ → List ℕ
halves [] = []
halves (x ∷ xs) = x / 2 ∷ halves xs

-- each number is below a size
abbrev pub AllBelow : ℕ → List ℕ → Type 0
AllBelow n [] = Unit {0}
AllBelow n (x ∷ xs) = (x < n) × AllBelow n xs
