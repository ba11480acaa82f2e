-- Numbers of a width, as they are printed.
use Rattle.std.specs.Prelude.{ℕ, suc, ℤ, pos, negsuc, List, codes, Bool, true, false, not, ◌==◌}
use Rattle.std.specs.Fmt.{decimal, signed_decimal}
use Rattle.xf_type.specs.declared.payload_type.Width.{Width}
use Rattle.xf_type.specs.declared.payload_type.Width.TheVariants.{I1}
use Rattle.xf_type.specs.Integers.{signed_value}

abbrev pub has_minus : ℤ → Bool
has_minus (pos n) = false
has_minus (negsuc n) = true

abbrev pub digits_of : ℤ → List ℕ
digits_of (pos n) = decimal n
digits_of (negsuc n) = decimal (suc n)

abbrev pub is_set : ℕ → Bool
is_set bits = not (bits == 0)

abbrev pub truth_word : Bool → List ℕ
truth_word true = codes "true"
truth_word false = codes "false"

-- a signed decimal; of i1 true or false
abbrev pub number_text : Width → ℕ → List ℕ
number_text I1 bits = truth_word (is_set bits)
number_text width bits = signed_decimal (signed_value width bits)
