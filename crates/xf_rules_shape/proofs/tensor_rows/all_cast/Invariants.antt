use Rattle.std.proofs.Common.{◌≡◌, drop}
use Rattle.xf_type.specs.Equal.{same_items}
use Rattle.xf_ir.specs.RuleTypes.{dims_cast}
use Rattle.xf_rules_shape.proofs.tensor_rows.all_cast.Given as goal

abbrev pub invariant-loop-at : goal.invariant-loop-at
invariant-loop-at l = same_items dims_cast (drop l.at l.a) (drop l.at l.b) ≡ same_items dims_cast l.a l.b
