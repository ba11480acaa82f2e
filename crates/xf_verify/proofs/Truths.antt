-- Truth values.
use Rattle.std.proofs.Common.{◌≡◌, ℕ, true, false, eqb, inl, inr, refl, sym, Option, None, Some}
use Rattle.std.specs.Prelude.{is_some}
use Rattle.std.proofs.lemmas.Bool.{cases_Bool, eqb-true, eq-eqb}

pub eqb_sym : (a b : ℕ) → eqb a b ≡ eqb b a
eqb_sym a b = elim (cases_Bool (eqb a b)) [
  | inl t ↦ (let e = eqb-true a b t in let o = eq-eqb b a (sym e) in cc)
  | inr f ↦ elim (cases_Bool (eqb b a)) [
    | inl t ↦ (let e = eqb-true b a t in let o = eq-eqb a b (sym e) in cc)
    | inr g ↦ cc
  ]
]

pub is_none_from : {A : Type 0} (o : Option A) → (is_some o ≡ true → false ≡ true) → o ≡ None
is_none_from None h = refl
is_none_from (Some x) h = absurd (let z = h refl in cc)
