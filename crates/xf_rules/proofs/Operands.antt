-- Operands of other numbers, and the last operand.
use Rattle.std.proofs.Common.{◌≡◌, ◌≢◌, ℕ, zero, suc, ◌-◌, ◌≤◌, List, [], ◌∷◌, length, map, get_or, Option, false}
use Rattle.std.proofs.Common.{refl, sym, ap, ◌∙◌, arith}
use denote.Ref.{Bor}
use Rattle.xf_type.specs.declared.payload_type.PayloadType.{PayloadType}
use Rattle.xf_type.specs.declared.payload_type.Width.{Width}
use Rattle.xf_type.specs.Equal.{same_types}
use Rattle.xf_type.proofs.EqualTypes.{unequal_behind, unequal_lengths}
use Rattle.xf_ir.specs.Types.{has_type, have_types, last_type}
use Rattle.xf_ir.specs.RuleBlocks.{element_type}
use Rattle.xf_rules.specs.OperandTypes.{operand_type, operand_types, scalars}

pub unequal_operands : (os : List (Option PayloadType)) (ts : List PayloadType) → length os ≢ length ts
    → have_types os ts ≡ false
unequal_operands [] [] n = absurd (n refl)
unequal_operands [] (t ∷ ts) n = refl
unequal_operands (o ∷ os) [] n = refl
unequal_operands (o ∷ os) (t ∷ ts) n =
    unequal_behind (has_type o t) (have_types os ts) (unequal_operands os ts (λ e. n (ap (λ k. suc k) e)))

pub operands_length : (os : List (Option (Bor PayloadType))) → length (operand_types os) ≡ length os
operands_length [] = refl
operands_length (o ∷ os) = ap (λ k. suc k) (operands_length os)

elements_length : (os : List (Option (Bor PayloadType))) → length (map element_type (operand_types os)) ≡ length os
elements_length [] = refl
elements_length (o ∷ os) = ap (λ k. suc k) (elements_length os)

scalars_length : (ws : List Width) → length (scalars ws) ≡ length ws
scalars_length [] = refl
scalars_length (w ∷ ws) = ap (λ k. suc k) (scalars_length ws)

pub unequal_types : (os : List (Option (Bor PayloadType))) (ts : List PayloadType) → length os ≢ length ts
    → have_types (operand_types os) ts ≡ false
unequal_types os ts n = unequal_operands (operand_types os) ts (λ e. n (sym (operands_length os) ∙ e))

pub unequal_elements : (os : List (Option (Bor PayloadType))) (ts : List PayloadType) → length os ≢ length ts
    → have_types (map element_type (operand_types os)) ts ≡ false
unequal_elements os ts n =
    unequal_operands (map element_type (operand_types os)) ts (λ e. n (sym (elements_length os) ∙ e))

pub unequal_scalars : (os : List (Option (Bor PayloadType))) (ws : List Width) → length os ≢ length ws
    → have_types (operand_types os) (scalars ws) ≡ false
unequal_scalars os ws n = unequal_types os (scalars ws) (λ e. n (e ∙ scalars_length ws))

pub unequal_widths : (ts : List PayloadType) (ws : List Width) → length ts ≢ length ws
    → same_types ts (scalars ws) ≡ false
unequal_widths ts ws n = unequal_lengths ts (scalars ws) (λ e. n (e ∙ scalars_length ws))

pub some_operands : (os : List (Option (Bor PayloadType))) → 1 ≤ length os → have_types (operand_types os) [] ≡ false
some_operands [] h = absurd (omega arith)
some_operands (o ∷ os) h = refl

-- ---- the last operand

last_at : (os : List (Option (Bor PayloadType))) (o : Option (Bor PayloadType)) (k : ℕ) → length os ≡ suc k
    → o ≡ get_or os k o → last_type (operand_types os) ≡ operand_type o
last_at [] o k e g = absurd (cc)
last_at (x ∷ []) o zero e g = ap operand_type (sym g)
last_at (x ∷ []) o (suc k) e g = absurd (omega arith)
last_at (x ∷ (y ∷ os)) o zero e g = absurd (omega arith)
last_at (x ∷ (y ∷ os)) o (suc k) e g = last_at (y ∷ os) o k (omega arith) g

pub last_operand : (os : List (Option (Bor PayloadType))) (o : Option (Bor PayloadType)) → 1 ≤ length os
    → o ≡ get_or os (length os - 1) o → last_type (operand_types os) ≡ operand_type o
last_operand os o h g = last_at os o (length os - 1) (omega arith) g

-- a loop takes three operands at least
pub few_for_loop : (os : List (Option (Bor PayloadType))) (a b c : PayloadType) (ts : List PayloadType) → length os ≤ 2
    → have_types (operand_types os) (a ∷ (b ∷ (c ∷ ts))) ≡ false
few_for_loop os a b c ts h = unequal_types os (a ∷ (b ∷ (c ∷ ts))) (omega arith)
