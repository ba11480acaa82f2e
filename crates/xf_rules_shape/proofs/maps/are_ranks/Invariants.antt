use Rattle.std.proofs.Common.{◌≡◌, drop}
use Rattle.xf_rules_shape.specs.Dims.{are_ranks}
use Rattle.xf_rules.specs.OperandTypes.{operand_types}
use Rattle.xf_rules_shape.proofs.maps.are_ranks.Given as goal

abbrev pub invariant-loop-at : goal.invariant-loop-at
invariant-loop-at l =
    are_ranks (drop l.at l.ranks) (operand_types (drop l.at l.types)) ≡ are_ranks l.ranks (operand_types l.types)
