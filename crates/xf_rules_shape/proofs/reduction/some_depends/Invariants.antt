use Rattle.std.proofs.Common.{◌≡◌, drop}
use Rattle.xf_ir.specs.Lists.{some}
use Rattle.xf_rules_shape.specs.Dependents.{out_value, depends_on}
use Rattle.xf_rules_shape.proofs.reduction.some_depends.Given as goal

-- what is left has one where the whole does
abbrev pub invariant-loop-value : goal.invariant-loop-value
invariant-loop-value l = some (depends_on (out_value l.out) l.dependent) (drop l.value-index l.values)
    ≡ some (depends_on (out_value l.out) l.dependent) l.values
