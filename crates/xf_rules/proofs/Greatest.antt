-- Numbers that fit a width.
use Rattle.std.proofs.Common.{◌≡◌, ℕ, ◌-◌, ◌^◌, arith}
use Rattle.std.specs.Prelude.{nat_le}
use Rattle.std.proofs.lemmas.Bool.Decides.{nat_tests}
use Rattle.xf_type.specs.declared.payload_type.Width.{Width}
use Rattle.xf_type.specs.declared.payload_type.Width.TheVariants.{I1, I8, I16, I32, I64, Index}
use Rattle.xf_type.specs.Integers.{bits_of}
use Rattle.xf_ir.specs.RuleAttributes.{fits_bits}

-- a number is below the power exactly where it is at most the greatest
pub fits_by_greatest : (w : Width) (n : ℕ) → nat_le n (2 ^ bits_of w - 1) ≡ fits_bits w n
fits_by_greatest I1 n = grind (arith, nat_tests)
fits_by_greatest I8 n = grind (arith, nat_tests)
fits_by_greatest I16 n = grind (arith, nat_tests)
fits_by_greatest I32 n = grind (arith, nat_tests)
fits_by_greatest I64 n = grind (arith, nat_tests)
fits_by_greatest Index n = grind (arith, nat_tests)
