use Rattle.std.proofs.Common.{◌≡◌, ◌≤◌, ◌^◌, drop}
use Rattle.std.specs.Prelude.{min}
use Rattle.std.specs.Str.Parse.{digits_value, digits_value_after}
use Rattle.xf_type.proofs.byte.number_of.Given as goal

-- the digits that are left, behind the number so far, write the number of all, as far as that is below 2 ^ 64
abbrev pub invariant-loop-b : goal.invariant-loop-b
invariant-loop-b l = record {
  value : min (digits_value_after 10 l.value (drop l.b-index l.digits)) (2 ^ 64)
      ≡ min (digits_value 10 l.digits) (2 ^ 64);
  small : l.value ≤ 2 ^ 64;
}
