-- The turns of a loop are those that come before its upper bound.
use Rattle.std.proofs.Common.{◌≡◌, ◌↔◌, ℕ, suc, ◌+◌, ◌-◌, ◌*◌, ◌/◌, ◌<◌, ◌≤◌, true, refl, arith}
use Rattle.std.specs.Prelude.{ℤ, pos, negsuc, ◌+ℤ◌, ◌-ℤ◌, int_lt}
use Rattle.std.proofs.Math.Nat.{le-div_iff_mul-le}
use Rattle.std.proofs.lemmas.Int.{ints}
use Rattle.xf_sem.specs.Control.{turns_of}
use Rattle.xf_sem.specs.Laws.{TurnsAreCounted}

-- ---- as numbers

counted_turn : (d s k : ℕ) → 0 < s → k < (d + (s - 1)) / s → k * s < d
counted_turn d s k h l =
    let a : suc k ≤ (d + (s - 1)) / s = omega (arith, l) in
    let b : suc k * s ≤ d + (s - 1) = (le-div_iff_mul-le h).0 a in
    let c : suc k * s ≡ k * s + s = omega arith in
    omega (arith, b, c, h)

early_turn : (d s k : ℕ) → 0 < s → k * s < d → k < (d + (s - 1)) / s
early_turn d s k h l =
    let c : suc k * s ≡ k * s + s = omega arith in
    let b : suc k * s ≤ d + (s - 1) = omega (arith, l, c, h) in
    let a : suc k ≤ (d + (s - 1)) / s = (le-div_iff_mul-le h).1 b in
    omega (arith, a)

-- ---- as integers

below_upper : (lower upper : ℤ) (d m : ℕ) → upper -ℤ lower ≡ pos d → m < d → int_lt (lower +ℤ pos m) upper ≡ true
below_upper lower upper d m e h = grind (arith, ints)

within_distance : (lower upper : ℤ) (d m : ℕ) → upper -ℤ lower ≡ pos d → int_lt (lower +ℤ pos m) upper ≡ true → m < d
within_distance lower upper d m e h = grind (arith, ints)

none_below : (lower upper : ℤ) (d m : ℕ) → upper -ℤ lower ≡ negsuc d → int_lt (lower +ℤ pos m) upper ≡ true → ⊥
none_below lower upper d m e h = grind (arith, ints)

at_distance : (lower upper : ℤ) (s k : ℕ) (z : ℤ) → upper -ℤ lower ≡ z → 0 < s
    → (k < turns_of z s) ↔ (int_lt (lower +ℤ pos (k * s)) upper ≡ true)
at_distance lower upper s k (pos d) e h = (
  λ l. below_upper lower upper d (k * s) e (counted_turn d s k h l),
  λ l. early_turn d s k h (within_distance lower upper d (k * s) e l),
)
at_distance lower upper s k (negsuc d) e h =
    (λ l. absurd (omega (arith, l)), λ l. absurd (none_below lower upper d (k * s) e l))

pub turns_are_counted : TurnsAreCounted
turns_are_counted lower upper s k h = at_distance lower upper s k (upper -ℤ lower) refl h
