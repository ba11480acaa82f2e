-- What rules of types say as equalities, and operands that have the types that are stated.
use Rattle.std.proofs.Common.{◌≡◌, ℕ, zero, suc, ◌+◌, ◌-◌, Bool, true, false, List, [], ◌∷◌, Option, Some, None, refl}
use Rattle.std.proofs.Common.{ap, ◌∙◌, arith, slice_get}
use Rattle.std.specs.Prelude.{map, nat_lt, ◌&&◌, if◌then◌else◌}
use Rattle.std.proofs.lemmas.Bool.{and_parts}
use Rattle.std.proofs.lemmas.Bool.Decides.{nat_tests}
use Rattle.xf_type.specs.declared.payload_type.PayloadType.{PayloadType}
use Rattle.xf_type.specs.declared.payload_type.PayloadType.TheVariants.{Scalar}
use Rattle.xf_type.specs.declared.payload_type.Width.{Width}
use Rattle.xf_format.specs.Parts.{Said}
use Rattle.xf_type.specs.Equal.{same_type}
use Rattle.xf_type.proofs.EqualTypes.{type_itself, type_is}
use Rattle.xf_ir.specs.Types.{have_types}
use Rattle.xf_read.specs.Types.{stated_type, fits}
use Rattle.xf_print_laws.specs.SaidPrinted.{known_types}
use Rattle.xf_grammar.proofs.Basics.{and_is}

-- ---- equal types

pub have_is : (os : List (Option PayloadType)) (ts : List PayloadType) → have_types os ts ≡ true → os ≡ map Some ts
have_is [] [] p = refl
have_is (Some u ∷ os) (t ∷ ts) p =
    let q = and_parts (same_type u t) (have_types os ts) p in
    let a = type_is u t q.0 in
    let b = have_is os ts q.1 in
    λ i. Some (a i) ∷ b i
have_is (None ∷ os) (t ∷ ts) p = absurd cc
have_is os ts p = absurd cc

-- ---- operands

-- the operands have the types that are stated
abbrev pub all_fit : Said → ℕ → List (Option PayloadType) → Bool
all_fit t i [] = true
all_fit t i (o ∷ os) = fits (stated_type t i) o && all_fit t (i + 1) os

pub known_are : (ts : List PayloadType) → known_types (map Some ts) ≡ ts
known_are [] = refl
known_are (t ∷ ts) = ap (λ us. t ∷ us) (known_are ts)

fit_from : (t : Said) (i : ℕ) (us : List PayloadType)
    → ((j q : ℕ) → q ≡ i + j → stated_type t q ≡ slice_get us j) → all_fit t i (map Some us) ≡ true
fit_from t i [] f = refl
fit_from t i (u ∷ us) f =
    and_is _ _ (ap (λ o. fits o (Some u)) (f 0 i (omega arith)) ∙ type_itself u)
    (fit_from t (i + 1) us (λ j q e. f (suc j) q (omega (arith, e))))

-- the types that are stated are those of a list
pub fit_all : (t : Said) (us : List PayloadType) → ((i : ℕ) → stated_type t i ≡ slice_get us i)
    → all_fit t 0 (map Some us) ≡ true
fit_all t us f = fit_from t 0 us (λ j q e. f q ∙ ap (slice_get us) (omega (arith, e)))

-- the bounds, the step and the initial values of a loop
pub loop_stated : (w : Width) (ts : List PayloadType) (i : ℕ)
    → (if nat_lt i 3 then Some (Scalar w) else slice_get ts (i - 3))
    ≡ slice_get (Scalar w ∷ (Scalar w ∷ (Scalar w ∷ ts))) i
loop_stated w ts zero = refl
loop_stated w ts (suc zero) = refl
loop_stated w ts (suc (suc zero)) = refl
loop_stated w ts (suc (suc (suc i))) =
    let a : nat_lt (suc (suc (suc i))) 3 ≡ false = grind (arith, nat_tests) in
    let b : suc (suc (suc i)) - 3 ≡ i = omega arith in
    rw (a, b) refl
