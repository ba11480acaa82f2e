-- The blanks before a line.
use Rattle.std.proofs.Common.{◌≡◌, ℕ, zero, suc, ◌+◌, ◌*◌, List, ◌∷◌, ◌++◌, codes, refl, ap, ◌∙◌, arith}
use Rattle.std.specs.Prelude.{replicate}

two_more : (n : ℕ) → replicate n 32 ++ codes "  " ≡ replicate (suc (suc n)) 32
two_more zero = refl
two_more (suc n) = ap (λ x. 32 ∷ x) (two_more n)

-- two more for one more level
pub next_level : (n : ℕ) (line line' : List ℕ) → line ≡ replicate (2 * n) 32 → line' ≡ line ++ codes "  "
    → line' ≡ replicate (2 * (n + 1)) 32
next_level n line line' e f =
    let q : suc (suc (2 * n)) ≡ 2 * (n + 1) = omega arith in
    rw (f, e) (two_more (2 * n) ∙ ap (λ k. replicate k 32) q)
