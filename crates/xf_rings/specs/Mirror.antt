-- What links back from each number goes forth to it.
use Rattle.std.specs.Prelude.{◌≡◌, ℕ, ◌<◌, List, length, slice_index}

pub record Mirror (next prev : List ℕ) : Type 0 where
  pub size : length prev ≡ length next
  pub next_in : (i : ℕ) → i < length next → slice_index next i < length next
  pub prev_in : (i : ℕ) → i < length next → slice_index prev i < length next
  pub back : (i : ℕ) → i < length next → slice_index prev (slice_index next i) ≡ i
  pub forth : (i : ℕ) → i < length next → slice_index next (slice_index prev i) ≡ i
