use Rattle.std.proofs.Common.{◌≡◌, drop}
use Rattle.xf_ir.specs.Lists.{every}
use Rattle.xf_ir.specs.RuleAttributes.{type_fits}
use Rattle.xf_rules_shape.proofs.ranges.are_in_range.Given as goal

-- what is left passes where the whole does
abbrev pub invariant-loop-ty : goal.invariant-loop-ty
invariant-loop-ty l = every type_fits (drop l.ty-index l.types) ≡ every type_fits l.types
