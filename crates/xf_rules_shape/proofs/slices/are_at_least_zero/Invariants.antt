use Rattle.std.proofs.Common.{◌≡◌, drop}
use Rattle.xf_ir.specs.Lists.{every}
use Rattle.xf_ir.specs.RuleSlices.{is_at_least_zero}
use Rattle.xf_rules_shape.proofs.slices.are_at_least_zero.Given as goal

-- what is left passes where the whole does
abbrev pub invariant-loop-index : goal.invariant-loop-index
invariant-loop-index l = every is_at_least_zero (drop l.index-index l.indices) ≡ every is_at_least_zero l.indices
