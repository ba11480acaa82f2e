-- The numbers that literals write (MLIR: integer literals; IntegerAttr).
use Rattle.std.specs.Prelude.{ℕ, ◌-◌, ◌^◌, ℤ, pos, neg_ℤ, Bool, if◌then◌else◌}
use Rattle.xf_type.specs.declared.payload_type.Width.{Width}
use Rattle.xf_type.specs.Integers.{wrapped}
use Rattle.xf_format.specs.Tests.{has_room}

-- the integer that digits write, with a - before them or not
abbrev pub signed : Bool → ℕ → ℤ
signed negative n = if negative then neg_ℤ (pos n) else pos n

abbrev pub truth_bits : Bool → ℕ
truth_bits b = if b then 1 else 0

-- the number of a literal of a width: that of its bits where the width has room for it, else one that no width has
abbrev pub integer_bits : Width → Bool → ℕ → ℕ
integer_bits w negative n =
    if has_room w negative n then wrapped w (signed negative n) else (if negative then 2 ^ 128 - n else n)
