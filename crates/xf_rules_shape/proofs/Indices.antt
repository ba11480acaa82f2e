-- Operands that are indices, by their number.
use Rattle.std.proofs.Common.{◌≡◌, ◌≢◌, ℕ, zero, suc, ◌+◌, ◌-◌, ◌<◌, ◌≤◌, ◌&&◌, List, [], ◌∷◌, length, replicate, Bool}
use Rattle.std.proofs.Common.{true, false, refl, sym, ap, ◌∙◌, arith, eq-eqb}
use Rattle.std.specs.Prelude.{Option, Some, ◌==◌}
use Rattle.std.proofs.lemmas.List.{length-replicate}
use Rattle.std.proofs.lemmas.Bool.Decides.{nat_tests}
use denote.Ref.{Bor}
use Rattle.xf_type.specs.declared.payload_type.PayloadType.{PayloadType}
use Rattle.xf_type.specs.declared.payload_type.PayloadType.TheVariants.{Scalar, Tensor}
use Rattle.xf_type.specs.declared.payload_type.Shape.{Shape}
use Rattle.xf_type.specs.declared.payload_type.Width.TheVariants.{Index}
use Rattle.xf_type.specs.declared.payload_type.Dim.{Dim}
use Rattle.xf_ir.specs.Lists.{every, is_empty, behind_first}
use Rattle.xf_ir.specs.RuleTypes.{dims_cast}
use Rattle.xf_type.specs.Equal.{same_items}
use Rattle.xf_ir.specs.Types.{are_indices, has_type, have_types}
use Rattle.xf_rules.specs.OperandTypes.{operand_types, is_index_type}
use Rattle.xf_type.proofs.EqualTypes.{unequal_items, type_itself}
use Rattle.xf_rules.proofs.Operands.{unequal_operands, operands_length}

and_true : (a : Bool) → (a && true) ≡ a
and_true true = refl
and_true false = refl

swapped : (a b c : Bool) → (b && (a && c)) ≡ (a && (b && c))
swapped true true c = refl
swapped true false c = refl
swapped false true c = refl
swapped false false c = refl

same_step : (m n : ℕ) → (suc m == suc n) ≡ (m == n)
same_step m n = grind (arith, nat_tests)

counted : (os : List (Option PayloadType)) (n : ℕ) → ((length os == n) && every is_index_type os) ≡ are_indices n os
counted [] zero = refl
counted [] (suc n) = grind (arith, nat_tests)
counted (o ∷ os) zero = grind (arith, nat_tests)
counted (o ∷ os) (suc n) =
    ap (λ b. b && (is_index_type o && every is_index_type os)) (same_step (length os) n)
    ∙ swapped (is_index_type o) (length os == n) (every is_index_type os)
    ∙ ap (λ b. is_index_type o && b) (counted os n)

pub indices_all : (os : List (Option (Bor PayloadType))) (n : ℕ) → length os ≡ n
    → every is_index_type (operand_types os) ≡ are_indices n (operand_types os)
indices_all os n e = (let t : (length (operand_types os) == n) ≡ true =
    eq-eqb (length (operand_types os)) n (operands_length os ∙ e) in rw t at (counted (operand_types os) n))

pub other_count : (os : List (Option (Bor PayloadType))) (n : ℕ) → length os ≢ n
    → are_indices n (operand_types os) ≡ false
other_count os n d = unequal_operands (operand_types os) (replicate n (Scalar Index)) (λ e. d (sym (operands_length os)
    ∙ e ∙ length-replicate n (Scalar Index)))

pub sum_is : (os : List (Option (Bor PayloadType))) (a b : ℕ) → a ≤ length os → length os - a ≡ b
    → every is_index_type (operand_types os) ≡ are_indices (a + b) (operand_types os)
sum_is os a b h e = indices_all os (a + b) (omega arith)

pub too_few : (os : List (Option (Bor PayloadType))) (a b : ℕ) → length os < a
    → are_indices (a + b) (operand_types os) ≡ false
too_few os a b h = other_count os (a + b) (omega arith)

pub sum_not : (os : List (Option (Bor PayloadType))) (a b : ℕ) → a ≤ length os → length os - a ≢ b
    → are_indices (a + b) (operand_types os) ≡ false
sum_not os a b h d = other_count os (a + b) (omega arith)

pub not_alone : (os : List (Option (Bor PayloadType))) → 2 ≤ length os
    → is_empty (behind_first (operand_types os)) ≡ false
not_alone [] h = absurd (omega arith)
not_alone (o ∷ []) h = absurd (omega arith)
not_alone (o ∷ (p ∷ os)) h = refl

pub one_alone : (os : List (Option (Bor PayloadType))) → length os ≡ 1
    → is_empty (behind_first (operand_types os)) ≡ true
one_alone [] h = refl
one_alone (o ∷ []) h = refl
one_alone (o ∷ (p ∷ os)) h = absurd (omega arith)

-- a tensor has its own type
pub target_itself : (o : Option PayloadType) (s : Shape)
    → has_type o (Scalar s.elem) ≡ have_types (o ∷ (Some (Tensor s) ∷ [])) (Scalar s.elem ∷ (Tensor s ∷ []))
target_itself o s = rw (type_itself (Tensor s)) (sym (and_true (has_type o (Scalar s.elem))))

pub other_rank : (a b : List Dim) → length a ≢ length b → same_items dims_cast a b ≡ false
other_rank a b n = unequal_items dims_cast a b n
