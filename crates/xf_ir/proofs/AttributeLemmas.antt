-- Attributes by name.
use Rattle.std.proofs.Common.{◌≡◌, ℕ, ◌≤◌, ◌&&◌, length, List, [], ◌∷◌, Bool, inl, inr, refl, ap, add-one, arith}
use Rattle.std.specs.Prelude.{◌==◌, nat_eq, Some}
use Rattle.std.specs.Ordering.{nat_cmp, is_lt, is_some_and}
use Rattle.std.specs.Cmp.Lexicographic.{pointwise, slice_partial_cmp}
use Rattle.std.proofs.lemmas.Cmp.{same_from_slice_cmp_tested}
use Rattle.std.proofs.lemmas.Bool.Decides.{nat_tests}
use Rattle.xf_ir.specs.Lists.{same_bytes}
use Rattle.std.specs.List.{insert}
use Rattle.std.proofs.lemmas.Bool.{cases_Bool}
use Rattle.xf_ir.specs.declared.kind.Attr.{Attr}
use Rattle.xf_ir.specs.Attributes.{bytes_before, placed, names_before}

-- ---- tests of bytes

pub same_by_pairs : (xs ys : List ℕ) → pointwise nat_eq xs ys ≡ same_bytes xs ys
same_by_pairs [] [] = refl
same_by_pairs [] (y ∷ ys) = refl
same_by_pairs (x ∷ xs) [] = refl
same_by_pairs (x ∷ xs) (y ∷ ys) = ap (λ b. (x == y) && b) (same_by_pairs xs ys)

pub before_by_pairs : (xs ys : List ℕ) (r : Bool)
    → r ≡ is_some_and is_lt (slice_partial_cmp (λ x y. Some (nat_cmp x y)) xs ys) → r ≡ bytes_before xs ys
before_by_pairs = same_from_slice_cmp_tested nat_cmp is_lt bytes_before refl (λ _ _. refl) (λ _ _. refl)
    (λ x y xs ys o h. grind (arith, nat_tests))

-- ---- the place of an attribute

pub insert_placed : (d : Attr) (ds : List Attr) → insert ds (names_before d.name ds) d ≡ placed d ds
insert_placed d [] = refl
insert_placed d (e ∷ es) =
    elim (cases_Bool (bytes_before e.name d.name)) [
      | inl h ↦ (let a = insert_placed d es in rw h (rw add-one (ap (λ (xs : List Attr). e ∷ xs) a)))
      | inr h ↦ rw h refl
    ]

pub names_within : (key : List ℕ) (ds : List Attr) → names_before key ds ≤ length ds
names_within key [] = omega arith
names_within key (e ∷ es) =
    let a = names_within key es in
    elim (cases_Bool (bytes_before e.name key)) [
      | inl h ↦ rw h (omega arith)
      | inr h ↦ rw h (omega arith)
    ]
