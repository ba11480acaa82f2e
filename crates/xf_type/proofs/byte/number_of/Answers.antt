use Rattle.std.proofs.Common.{◌≡◌, ◌^◌, ◌*◌, ◌+◌, get_or, arith}
use Rattle.std.specs.Prelude.{min}
use Rattle.std.specs.Char.{digit_value}
use Rattle.xf_type.proofs.Numbers.{digit_turn}
use Rattle.xf_type.proofs.byte.number_of.Goals as goal

pub loop-b-preserved : goal.loop-b-preserved
loop-b-preserved c =
    let d = digit_value (get_or c.args.digits.now c.loop-b.b-index 0) in
    let e : c.min-value.result ≡ min (c.loop-b.value * 10 + d) (2 ^ 64) = grind arith in
    record {
      value = rw e (digit_turn c.args.digits.now c.loop-b.b-index c.loop-b.value
          (2 ^ 64) _ c.loop-b-test.true c.loop-b.invariant.value);
      small = omega arith;
    }
