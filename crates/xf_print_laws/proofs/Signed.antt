-- The sign and the digits of a number of a width, for which the width has room.
use Rattle.std.proofs.Common.{◌≡◌, ℕ, suc, ◌+◌, ◌-◌, ◌^◌, ◌<◌, ◌≤◌, true, refl, arith}
use Rattle.std.specs.Prelude.{ℤ, pos, negsuc, ◌-ℤ◌, nat_lt, if◌then◌else◌}
use Rattle.std.proofs.lemmas.Bool.{le-leb, ltb-true}
use Rattle.std.proofs.lemmas.Bool.Decides.{nat_tests}
use Rattle.std.proofs.lemmas.Fmt.{decimal_is_IsNumeral}
use Rattle.std.proofs.lemmas.Int.{ints}
use Rattle.std.specs.Fmt.{decimal}
use Rattle.xf_type.specs.declared.payload_type.Width.{Width}
use Rattle.xf_type.specs.declared.payload_type.Width.TheVariants.{I1, I64}
use Rattle.xf_type.specs.Integers.{bits_of, signed_value}
use Rattle.xf_lex.specs.declared.token.TokenKind.TheVariants as token
use Rattle.xf_grammar.specs.Apart.{IsLexeme}
use Rattle.xf_grammar.specs.Tokens.{terminal, number_of}
use Rattle.xf_format.specs.Tests.{room_for}
use Rattle.xf_ir.specs.RuleAttributes.{fits_bits}
use Rattle.xf_printed.specs.Fills.{has_minus, digits_of}
use Rattle.xf_print_laws.specs.Stored.{IsShortNumber}
use Rattle.xf_print_laws.proofs.LayoutTokens.{integer_lexes}
use Rattle.xf_ir.proofs.Lists.{at_cases}

-- the digits of a number below 2 ^ 64 write it
pub number_is : (n : ℕ) → n < 2 ^ 64 → number_of (decimal n) ≡ n
number_is n lt = let e = (decimal_is_IsNumeral n lt).1 in rw e (grind (arith, nat_tests))

-- an integer with as much room as so many bits have
abbrev InRange : ℕ → ℕ → ℤ → Type 0
InRange half full (pos n) = n < full
InRange half full (negsuc n) = suc n ≤ half

minus_is : (n full : ℕ) → n < full → (pos n -ℤ pos full) ≡ negsuc (full - 1 - n)
minus_is n full h = grind (arith, nat_tests, ints)

signed_by : ℕ → ℕ → ℕ → ℤ
signed_by half full n = if nat_lt n half then pos n else (pos n -ℤ pos full)

in_range : (n half full : ℕ) → n < full → half + half ≡ full → InRange half full (signed_by half full n)
unfolding signed_by
in_range n half full h e =
    at_cases (nat_lt n half) (pos n) (pos n -ℤ pos full) (InRange half full) (λ l. h)
    (λ l. let k : half ≤ n = grind (arith, nat_tests) in rw (minus_is n full h) (omega arith))

-- the digits of an integer are those of a number below 2 ^ 64
abbrev pub IsShort : ℤ → Type 0
IsShort z = IsShortNumber z

-- a number of a width: there is room for it in the width and in 64 bits, and its digits are those of a number of 64
-- bits
pub record Roomy (w : Width) (z : ℤ) : Type 0 where
  pub here : room_for w (has_minus z) (terminal token.Integer (digits_of z)) ≡ true
  pub largest : room_for I64 (has_minus z) (terminal token.Integer (digits_of z)) ≡ true
  pub short : IsShort z
  pub lex : IsLexeme (terminal token.Integer (digits_of z))

by_range : (w : Width) (half full : ℕ) (z : ℤ) → InRange half full z → half ≤ 2 ^ (bits_of w - 1)
    → full ≤ 2 ^ bits_of w → full ≤ 2 ^ 64 → half ≤ 2 ^ 63 → Roomy w z
by_range w half full (pos n) h p q r s =
    let e = number_is n (omega arith) in
    record {
      here = rw e (le-leb n (2 ^ bits_of w - 1) (omega arith));
      largest = rw e (le-leb n (2 ^ 64 - 1) (omega arith));
      short = omega arith;
      lex = integer_lexes n (omega arith);
    }
by_range w half full (negsuc n) h p q r s =
    let e = number_is (suc n) (omega arith) in
    record {
      here = rw e (le-leb (suc n) (2 ^ (bits_of w - 1)) (omega arith));
      largest = rw e (le-leb (suc n) (2 ^ 63) (omega arith));
      short = omega arith;
      lex = integer_lexes (suc n) (omega arith);
    }

pub roomy : (w : Width) (bits : ℕ) → fits_bits w bits ≡ true → Roomy w (signed_value w bits)
unfolding signed_by
roomy I1 bits e =
    by_range I1 1 2 (signed_value I1 bits) (in_range bits 1 2 (ltb-true bits 2 e) refl) (omega arith) (omega arith)
    (omega arith) (omega arith)
roomy w bits e =
    let half = 2 ^ (bits_of w - 1) in
    let full = 2 ^ bits_of w in
    by_range w half full (signed_value w bits) (in_range bits half full (ltb-true bits full e) refl) (omega arith)
    (omega arith) (omega arith)
    (omega arith)
