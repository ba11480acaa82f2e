-- Decimal numbers that are cut off at a limit.
use Rattle.std.proofs.Common.{◌≡◌, ◌⊎◌, inl, inr, ℕ, ◌+◌, ◌*◌, ◌<◌, ◌≤◌, List, [], ◌∷◌, length, drop, get_or, sym, ap}
use Rattle.std.proofs.Common.{◌∙◌, arith}
use Rattle.std.specs.Prelude.{min}
use Rattle.std.specs.Char.{digit_value}
use Rattle.std.specs.Str.Parse.{digits_value_after}
use Rattle.std.proofs.lemmas.Bool.{cases_lt}
use Rattle.std.proofs.lemmas.List.{at_drop_more}

-- more digits never make less
after_more : (ds : List ℕ) (n : ℕ) → n ≤ digits_value_after 10 n ds
after_more [] n = omega arith
after_more (d ∷ ds) n = omega (arith, after_more ds (n * 10 + digit_value d))

-- what is cut off at the limit stays there
after_cut : (ds : List ℕ) (n limit : ℕ)
    → min (digits_value_after 10 (min n limit) ds) limit ≡ min (digits_value_after 10 n ds) limit
after_cut ds n limit = by (cases_lt n limit)
  where
    by : (n < limit) ⊎ (limit ≤ n)
        → min (digits_value_after 10 (min n limit) ds) limit ≡ min (digits_value_after 10 n ds) limit
    by (inl h) = let e : min n limit ≡ n = omega arith in ap (λ k. min (digits_value_after 10 k ds) limit) e
    by (inr h) =
        let e : min n limit ≡ limit = omega arith in
        ap (λ k. min (digits_value_after 10 k ds) limit) e
        ∙ (let a = after_more ds limit in let b = after_more ds n in omega arith)

-- one more digit
pub digit_turn : (ds : List ℕ) (i n limit all : ℕ) → i < length ds
    → min (digits_value_after 10 n (drop i ds)) limit ≡ all
    → min (digits_value_after 10 (min (n * 10 + digit_value (get_or ds i 0)) limit) (drop (i + 1) ds)) limit ≡ all
digit_turn ds i n limit all lt h =
    after_cut (drop (i + 1) ds) (n * 10 + digit_value (get_or ds i 0)) limit
    ∙ sym (at_drop_more (λ xs. min (digits_value_after 10 n xs) limit) ds i 0 lt) ∙ h
