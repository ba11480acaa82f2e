use Rattle.std.proofs.Common.{◌≡◌, drop}
use Rattle.xf_ir.specs.Lists.{every}
use Rattle.xf_ir.specs.RuleAttributes.{fits_bits}
use Rattle.xf_rules_shape.proofs.dense.all_fit.Given as goal

-- what is left passes where the whole does
abbrev pub invariant-loop-number : goal.invariant-loop-number
invariant-loop-number l =
    every (fits_bits l.width) (drop l.number-index l.numbers) ≡ every (fits_bits l.width) l.numbers
