use Rattle.std.proofs.Common.{◌≡◌, drop}
use Rattle.xf_ir.specs.Lists.{every}
use Rattle.std.specs.Prelude.{nat_lt}
use Rattle.xf_rules_shape.proofs.maps.are_below.Given as goal

abbrev pub invariant-loop-number : goal.invariant-loop-number
invariant-loop-number l =
    every (λ d. nat_lt d l.count) (drop l.number-index l.numbers) ≡ every (λ d. nat_lt d l.count) l.numbers
