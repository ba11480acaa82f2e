-- Bytes that all pass a test.
use Rattle.std.proofs.Common.{◌≡◌, ℕ, Bool, true, List, [], ◌∷◌, ◌++◌, refl}
use Rattle.std.specs.List.{list_all}
use Rattle.xf_lex.proofs.Stays.{AllPass}

pub pass_more : (p q : ℕ → Bool) → ((b : ℕ) → p b ≡ true → q b ≡ true) → (bs : List ℕ) → AllPass p bs → AllPass q bs
pass_more p q f [] g = tt
pass_more p q f (b ∷ bs) g = (f b g.0, pass_more p q f bs g.1)

pub pass_both : (p : ℕ → Bool) (xs ys : List ℕ) → AllPass p xs → AllPass p ys → AllPass p (xs ++ ys)
pass_both p [] ys a b = b
pass_both p (x ∷ xs) ys a b = (a.0, pass_both p xs ys a.1 b)

pub all_pass : (p : ℕ → Bool) (bs : List ℕ) → AllPass p bs → list_all p bs ≡ true
all_pass p [] g = refl
all_pass p (b ∷ bs) g = let e = g.0 in rw e (all_pass p bs g.1)
