-- The numbers of dense constants.
use Rattle.std.proofs.Common.{◌≡◌, ℕ, suc, zero, ◌+◌, ◌-◌, ◌*◌, ◌^◌, ◌<◌, ◌≤◌, ◌&&◌, List, ◌∷◌, length, get_or, drop}
use Rattle.std.proofs.Common.{add-one, drop-cons, Bool, false, inl, inr, refl, ap, sym, ◌∙◌, arith}
use Rattle.std.specs.Prelude.{min, nat_le}
use Rattle.std.proofs.Math.Nat.{mul_assoc, mul-one}
use Rattle.std.proofs.Math.Numerals.{unary_clauses}
use Rattle.std.proofs.lemmas.Bool.{cases_Bool}
use Rattle.std.proofs.lemmas.List.{drop_all}
use Rattle.std.proofs.lemmas.Bool.Decides.{nat_tests}
use Rattle.xf_type.specs.declared.payload_type.Dim.{Dim}
use Rattle.xf_type.specs.declared.payload_type.Dim.TheVariants.{Fixed, Dynamic}
use Rattle.xf_type.specs.declared.payload_type.Width.{Width}
use Rattle.xf_type.specs.declared.payload_type.Width.TheVariants.{I1, I8, I16, I32, I64, Index}
use Rattle.xf_type.specs.Integers.{bits_of}
use Rattle.xf_ir.specs.RuleAttributes.{fits_bits, element_count, numbers_of}
use Rattle.xf_rules_shape.specs.Extents.{extent_or_one}

-- a product of which one factor stood still
pub saturated : (a r m : ℕ) → min (min a m * r) m ≡ min (a * r) m
saturated a zero m = simp unary_clauses
saturated a (suc r) m =
    elim (cases_Bool (nat_le a m)) [
      | inl h ↦ (let e : min a m ≡ a = grind (arith, nat_tests) in ap (λ k. min (k * suc r) m) e)
      | inr h ↦ (
          let e : min a m ≡ m = grind (arith, nat_tests) in
          let g : m < a = grind (arith, nat_tests) in
          let p : min (m * suc r) m ≡ m = omega arith in
          let q : min (a * suc r) m ≡ m = omega arith in
          ap (λ k. min (k * suc r) m) e ∙ p ∙ sym q)
    ]

-- one dimension more
pub counted_more : (count : ℕ) (d : Dim) (ds : List Dim)
    → min (min (count * extent_or_one d) (2 ^ 64 - 1) * element_count ds) (2 ^ 64 - 1)
    ≡ min (count * element_count (d ∷ ds)) (2 ^ 64 - 1)
counted_more count (Fixed extent) ds = saturated (count * extent) (element_count ds) (2 ^ 64 - 1)
    ∙ ap (λ k. min k (2 ^ 64 - 1)) (mul_assoc count extent (element_count ds))
counted_more count Dynamic ds = saturated (count * 1) (element_count ds) (2 ^ 64 - 1)
    ∙ ap (λ k. min (k * element_count ds) (2 ^ 64 - 1)) (mul-one count)

-- the next dimension of a list
pub counted_next : (count next : ℕ) (ds : List Dim) (i : ℕ) → i < length ds
    → next ≡ min (count * extent_or_one (get_or ds i (Fixed 0))) (2 ^ 64 - 1) →
    min (next * element_count (drop (i + 1) ds)) (2 ^ 64 - 1) ≡ min (count * element_count (drop i ds)) (2 ^ 64 - 1)
counted_next count next ds i h e =
    let d : drop i ds ≡ get_or ds i (Fixed 0) ∷ drop (i + 1) ds = rw (add-one, drop-cons ds i (Fixed 0)) refl in
    ap (λ k. min (k * element_count (drop (i + 1) ds)) (2 ^ 64 - 1)) e
    ∙ counted_more count (get_or ds i (Fixed 0)) (drop (i + 1) ds)
    ∙ ap (λ xs. min (count * element_count xs) (2 ^ 64 - 1)) (sym d)

-- where no dimension is left
pub counted_all : (count : ℕ) (ds : List Dim) (i : ℕ) → length ds ≤ i → count ≤ 2 ^ 64 - 1
    → count ≡ min (count * element_count (drop i ds)) (2 ^ 64 - 1)
counted_all count ds i h k = rw (drop_all i ds h) (omega arith)

-- where there are more elements than a dense constant may have, their number is not looked at
pub few_elements : (c count : ℕ) (ns : List ℕ) (fit : Bool) → count ≡ min c (2 ^ 64 - 1)
    → (nat_le count 1048576 && (numbers_of count ns && fit)) ≡ (nat_le c 1048576 && (numbers_of c ns && fit))
few_elements c count ns fit e =
    elim (cases_Bool (nat_le c 1048576)) [
      | inl h ↦ (let same : count ≡ c =
          grind (arith, nat_tests) in ap (λ k. nat_le k 1048576 && (numbers_of k ns && fit)) same)
      | inr h ↦ (let more : nat_le count 1048576 ≡ false = grind (arith, nat_tests) in rw (more, h) refl)
    ]
