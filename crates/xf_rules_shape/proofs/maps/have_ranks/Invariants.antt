use Rattle.std.proofs.Common.{◌≡◌, drop}
use Rattle.xf_ir.specs.RuleLinalg.{have_ranks}
use Rattle.xf_rules.specs.OperandTypes.{operand_types}
use Rattle.xf_rules_shape.proofs.maps.have_ranks.Given as goal

abbrev pub invariant-loop-at : goal.invariant-loop-at
invariant-loop-at l =
    have_ranks (drop l.at l.maps) (operand_types (drop l.at l.types)) ≡ have_ranks l.maps (operand_types l.types)
