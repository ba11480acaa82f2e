use Rattle.std.proofs.Common.{◌≡◌, drop, ◌++◌}
use Rattle.xf_ir.specs.RuleLinalg.{extents}
use Rattle.xf_rules.specs.OperandTypes.{operand_types}
use Rattle.xf_rules_shape.proofs.extents.extents_of.Given as goal

-- what is there and what is left are the whole
abbrev pub invariant-loop-at : goal.invariant-loop-at
invariant-loop-at l = l.pairs.items ++ extents (drop l.at l.maps) (operand_types (drop l.at l.types))
    ≡ extents l.maps (operand_types l.types)
