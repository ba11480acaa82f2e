use Rattle.std.proofs.Common.{◌≡◌, drop, ◌++◌}
use Rattle.xf_ir.specs.RuleLinalg.{by_dims}
use Rattle.xf_rules_shape.proofs.extents.add_extents.Given as goal

-- what is there and what is left are the whole
abbrev pub invariant-loop-at : goal.invariant-loop-at
invariant-loop-at l =
    l.pairs.items ++ by_dims (drop l.at l.dims) (drop l.at l.extents) ≡ l.fn.pairs.items ++ by_dims l.dims l.extents
