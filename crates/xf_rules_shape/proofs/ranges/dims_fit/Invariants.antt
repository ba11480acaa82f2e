use Rattle.std.proofs.Common.{◌≡◌, drop}
use Rattle.xf_ir.specs.Lists.{every}
use Rattle.xf_ir.specs.RuleAttributes.{dim_fits}
use Rattle.xf_rules_shape.proofs.ranges.dims_fit.Given as goal

-- what is left passes where the whole does
abbrev pub invariant-loop-dim : goal.invariant-loop-dim
invariant-loop-dim l = every dim_fits (drop l.dim-index l.dims) ≡ every dim_fits l.dims
