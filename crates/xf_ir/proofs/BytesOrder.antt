-- The order of texts by their bytes.
use Rattle.std.proofs.Common.{◌≡◌, ◌⊎◌, ℕ, ◌<◌, List, [], ◌∷◌, true, false, inl, inr, refl, ◌∙◌, subst, arith}
use Rattle.std.proofs.lemmas.Bool.{cases_Bool}
use Rattle.std.proofs.lemmas.Bool.Decides.{nat_tests}
use Rattle.xf_ir.specs.Lists.{same_bytes}
use Rattle.xf_ir.specs.Attributes.{bytes_before}

ordered : (x y : ℕ) (xs ys : List ℕ) → bytes_before (x ∷ xs) (y ∷ ys) ≡ true
    → (x < y) ⊎ ((x ≡ y) × (bytes_before xs ys ≡ true))
ordered x y xs ys h = grind (arith, nat_tests)

first_before : (x y : ℕ) (xs ys : List ℕ) → x < y → bytes_before (x ∷ xs) (y ∷ ys) ≡ true
first_before x y xs ys h = grind (arith, nat_tests)

rest_before : (x y : ℕ) (xs ys : List ℕ) → x ≡ y → bytes_before xs ys ≡ true → bytes_before (x ∷ xs) (y ∷ ys) ≡ true
rest_before x y xs ys e h = grind (arith, nat_tests)

pub before_trans : (xs ys zs : List ℕ) → bytes_before xs ys ≡ true → bytes_before ys zs ≡ true
    → bytes_before xs zs ≡ true
before_trans [] [] zs h k = absurd (cc)
before_trans [] (y ∷ ys) [] h k = absurd (cc)
before_trans [] (y ∷ ys) (z ∷ zs) h k = refl
before_trans (x ∷ xs) [] zs h k = absurd (cc)
before_trans (x ∷ xs) (y ∷ ys) [] h k = absurd (cc)
before_trans (x ∷ xs) (y ∷ ys) (z ∷ zs) h k =
    elim (ordered x y xs ys h) [
      | inl a ↦ elim (ordered y z ys zs k) [
        | inl b ↦ first_before x z xs zs (omega arith)
        | inr b ↦ (let e = b.0 in first_before x z xs zs (omega arith))
      ]
      | inr a ↦ elim (ordered y z ys zs k) [
        | inl b ↦ (let e = a.0 in first_before x z xs zs (omega arith))
        | inr b ↦ rest_before x z xs zs (a.0 ∙ b.0) (before_trans xs ys zs a.1 b.1)
      ]
    ]

-- of two texts that differ one comes before the other
pub before_or_behind : (xs ys : List ℕ) → bytes_before xs ys ≡ false → same_bytes xs ys ≡ false
    → bytes_before ys xs ≡ true
before_or_behind [] [] h k = absurd (cc)
before_or_behind [] (y ∷ ys) h k = absurd (cc)
before_or_behind (x ∷ xs) [] h k = refl
before_or_behind (x ∷ xs) (y ∷ ys) h k = grind (arith, nat_tests, before_or_behind xs ys)

pub never_both : (xs ys : List ℕ) → bytes_before xs ys ≡ true → bytes_before ys xs ≡ false
never_both [] [] h = refl
never_both [] (y ∷ ys) h = refl
never_both (x ∷ xs) [] h = absurd (cc)
never_both (x ∷ xs) (y ∷ ys) h = grind (arith, nat_tests, never_both xs ys)

pub not_itself : (xs : List ℕ) → bytes_before xs xs ≡ false
not_itself [] = refl
not_itself (x ∷ xs) = grind (arith, nat_tests, not_itself xs)

pub same_is : (xs ys : List ℕ) → same_bytes xs ys ≡ true → xs ≡ ys
same_is [] [] h = refl
same_is [] (y ∷ ys) h = absurd (cc)
same_is (x ∷ xs) [] h = absurd (cc)
same_is (x ∷ xs) (y ∷ ys) h = grind (arith, nat_tests, same_is xs ys)

pub same_itself : (xs : List ℕ) → same_bytes xs xs ≡ true
same_itself [] = refl
same_itself (x ∷ xs) = grind (arith, nat_tests, same_itself xs)

pub before_other : (xs ys : List ℕ) → bytes_before xs ys ≡ true → same_bytes ys xs ≡ false
before_other xs ys h =
    elim (cases_Bool (same_bytes ys xs)) [
      | inl e ↦ absurd (let z = subst (λ zs. bytes_before xs zs ≡ true) (same_is ys xs e) h in
          let n = not_itself xs in cc)
      | inr e ↦ e
    ]
