use Rattle.std.proofs.Common.{◌≡◌, drop, map}
use Rattle.xf_ir.specs.Types.{have_types}
use Rattle.xf_ir.specs.RuleBlocks.{element_type}
use Rattle.xf_rules.specs.OperandTypes.{operand_types}
use Rattle.xf_rules.proofs.types.are_elements.Given as goal

abbrev pub invariant-loop-at : goal.invariant-loop-at
invariant-loop-at l = have_types (map element_type (operand_types (drop l.at l.types))) (drop l.at l.wanted)
    ≡ have_types (map element_type (operand_types l.types)) l.wanted
