-- Numbers of a width are said again by their digits.
use Rattle.std.proofs.Common.{◌≡◌, ℕ, suc, ◌^◌, ◌<◌, true, cond, Some, ap, ◌∙◌, arith}
use Rattle.std.specs.Prelude.{ℤ, pos, negsuc, neg_ℤ, ◌-◌}
use Rattle.std.proofs.lemmas.Bool.{ltb-true}
use Rattle.std.proofs.lemmas.Bool.Decides.{nat_tests}
use Rattle.xf_type.specs.declared.attribute.AttrValue.TheVariants as attr
use Rattle.xf_type.specs.declared.payload_type.Width.{Width}
use Rattle.xf_type.specs.declared.payload_type.Width.TheVariants.{I1}
use Rattle.xf_type.specs.Integers.{bits_of, signed_value, wrapped}
use Rattle.xf_type.proofs.LawLemmas.{wrapped-signed_value}
use Rattle.xf_grammar.specs.Tokens.{number_of}
use Rattle.xf_format.specs.Parts.{number, number_value}
use Rattle.xf_ir.specs.RuleAttributes.{fits_bits}
use Rattle.xf_read_base.specs.Values.{signed, truth_bits, bits_said, attr_value}
use Rattle.xf_printed.specs.Fills.{has_minus, digits_of, is_set}
use Rattle.xf_print_laws.specs.SaidPrinted.{signed_said, literal_printed, integer_printed}
use Rattle.xf_print_laws.proofs.Signed.{IsShort, roomy}
use Rattle.xf_print_laws.proofs.Single.{number_is}

pub truth_again : (bits : ℕ) → bits < 2 → truth_bits (is_set bits) ≡ bits
truth_again bits h = grind (arith, nat_tests)

pub below : (w : Width) (n : ℕ) → fits_bits w n ≡ true → n < 2 ^ bits_of w
below w n e = ltb-true n (2 ^ bits_of w) e

-- the sign and the digits of an integer are those of the integer
pub signed_again : (z : ℤ) → IsShort z → signed (has_minus z) (number_of (digits_of z)) ≡ z
signed_again (pos n) h = ap pos (number_is n h)
signed_again (negsuc n) h = ap (λ d. neg_ℤ (pos d)) (number_is (suc n) h)

wrapped_again : (w : Width) (n : ℕ) → fits_bits w n ≡ true
    → wrapped w (signed (has_minus (signed_value w n)) (number_of (digits_of (signed_value w n)))) ≡ n
wrapped_again w n f =
    ap (wrapped w) (signed_again (signed_value w n) (roomy w n f).short) ∙ wrapped-signed_value w n (below w n f)

-- for which there is room
pub bits_again : (w : Width) (n : ℕ) → fits_bits w n ≡ true → bits_said w (Some (signed_said number (signed_value w n))) ≡ n
bits_again w n f =
    let z : ℤ = signed_value w n in
    let d : ℕ = number_of (digits_of z) in
    ap (λ b. cond b (wrapped w (signed (has_minus z) d)) (cond (has_minus z) (2 ^ 128 - d) d)) (roomy w n f).here
    ∙ wrapped_again w n f

value_again : (w : Width) (n : ℕ) → fits_bits w n ≡ true
    → attr_value (signed_said (λ negative digits. number_value negative digits w) (signed_value w n)) ≡ attr.Int w n
value_again w n f = ap (attr.Int w) (wrapped_again w n f)

pub literal_again : (w : Width) (n : ℕ) → fits_bits w n ≡ true → bits_said w (Some (literal_printed w n)) ≡ n
literal_again I1 n f = truth_again n (below I1 n f)
literal_again w n f = bits_again w n f

pub integer_again : (w : Width) (n : ℕ) → fits_bits w n ≡ true → attr_value (integer_printed w n) ≡ attr.Int w n
integer_again I1 n f = ap (attr.Int I1) (truth_again n (below I1 n f))
integer_again w n f = value_again w n f
