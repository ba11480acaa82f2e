-- Dimensions in order, one more.
use Rattle.std.proofs.Common.{◌≡◌, ℕ, suc, ◌+◌, ◌-◌, ◌<◌, List, [], ◌∷◌, ◌++◌, sym, ap, ◌∙◌, arith, append_assoc}
use Rattle.xf_ir.specs.RuleLinalg.{counted}

one_more : (d n : ℕ) → d < n → n - d ≡ suc (n - (d + 1))
one_more d n h = omega arith

pub dims_more : (xs ys all : List ℕ) (d n : ℕ) → d < n → ys ≡ xs ++ d ∷ [] → xs ++ counted d (n - d) ≡ all
    → ys ++ counted (d + 1) (n - (d + 1)) ≡ all
dims_more xs ys all d n h p e =
    ap (λ us. us ++ counted (d + 1) (n - (d + 1))) p ∙ append_assoc xs (d ∷ []) (counted (d + 1) (n - (d + 1)))
    ∙ ap (λ k. xs ++ counted d k) (sym (one_more d n h)) ∙ e
