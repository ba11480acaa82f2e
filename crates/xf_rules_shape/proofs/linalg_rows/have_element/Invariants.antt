use Rattle.std.proofs.Common.{◌≡◌, drop}
use Rattle.xf_ir.specs.Lists.{every}
use Rattle.xf_ir.specs.RuleTypes.{has_element}
use Rattle.xf_rules.specs.OperandTypes.{operand_types}
use Rattle.xf_rules_shape.proofs.linalg_rows.have_element.Given as goal

abbrev pub invariant-loop-ty : goal.invariant-loop-ty
invariant-loop-ty l = every (has_element l.width) (operand_types (drop l.ty-index l.types))
    ≡ every (has_element l.width) (operand_types l.types)
