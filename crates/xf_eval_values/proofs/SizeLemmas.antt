-- Products of sizes.
use Rattle.std.proofs.Common.{◌≡◌, ◌⊎◌, inl, inr, ℕ, zero, suc, ◌+◌, ◌*◌, ◌<◌, ◌≤◌, List, [], ◌∷◌, true, false, length}
use Rattle.std.proofs.Common.{get_or, drop, sym, ap, ◌∙◌, arith}
use Rattle.std.proofs.lemmas.List.{drop_more}
use Rattle.std.proofs.lemmas.Bool.{or_cases, or_parts, eqb-true, eqb-false}
use Rattle.std.specs.Prelude.{◌==◌}
use Rattle.xf_points.specs.Points.{product}
use Rattle.xf_eval_values.specs.Sizes.{has_zero}

zero_times : (n : ℕ) → 0 * n ≡ 0
zero_times n = grind arith

times_zero : (n : ℕ) → n * 0 ≡ 0
times_zero n = grind arith

pub zero_product : (ns : List ℕ) → has_zero ns ≡ true → product ns ≡ 0
zero_product [] h = cc
zero_product (n ∷ ns) h = by (or_cases (n == 0) (has_zero ns) h) (zero_product ns)
  where
    by : ((n == 0) ≡ true) ⊎ (has_zero ns ≡ true) → (has_zero ns ≡ true → product ns ≡ 0) → n * product ns ≡ 0
    by (inl e) ih = ap (λ k. k * product ns) (eqb-true n 0 e) ∙ zero_times (product ns)
    by (inr e) ih = ap (λ k. n * k) (ih e) ∙ times_zero n

positive_times : (a b : ℕ) → 0 < a → 0 < b → 0 < a * b
positive_times a b h k = grind arith

not_zero : (n : ℕ) → (n ≡ 0 → ⊥) → 0 < n
not_zero zero h = absurd (h (omega arith))
not_zero (suc n) h = omega arith

pub positive_product : (ns : List ℕ) → has_zero ns ≡ false → 0 < product ns
positive_product [] h = omega arith
positive_product (n ∷ ns) h =
    let b = or_parts (n == 0) (has_zero ns) h in
    positive_times n (product ns) (not_zero n (eqb-false n 0 b.0)) (positive_product ns b.1)

above_factor : (next rest all limit : ℕ) → next * rest ≡ all → 0 < all → limit < next → limit < all
above_factor next zero all limit e p h = absurd (let z : 0 ≡ all = sym (times_zero next) ∙ e in omega arith)
above_factor next (suc rest) all limit e p h =
    let z : next ≤ next * suc rest = grind arith in omega (arith, z, e)

-- the product of the sizes up to one passes a limit
pub passes_limit : (ns : List ℕ) (i count limit : ℕ) → i < length ns
    → count * product (drop i ns) ≡ product ns → 0 < product ns → limit < count * get_or ns i 0 → limit < product ns
passes_limit ns i count limit h e q l =
    let d = ap product (drop_more ns i 0 h) in
    let r : (count * get_or ns i 0) * product (drop (i + 1) ns) ≡ product ns =
    assoc count (get_or ns i 0) (product (drop (i + 1) ns)) ∙ ap (λ s. count * s) (sym d) ∙ e in
    above_factor (count * get_or ns i 0) (product (drop (i + 1) ns)) (product ns) limit r q l
  where
    assoc : (a b c : ℕ) → (a * b) * c ≡ a * (b * c)
    assoc a b c = grind arith
