use Rattle.std.proofs.Common.{◌≡◌, drop}
use Rattle.xf_ir.specs.Types.{have_types}
use Rattle.xf_rules.specs.OperandTypes.{operand_types}
use Rattle.xf_rules.proofs.types.have_types.Given as goal

-- those that are left have the types that are left where all have all
abbrev pub invariant-loop-at : goal.invariant-loop-at
invariant-loop-at l =
    have_types (operand_types (drop l.at l.types)) (drop l.at l.wanted) ≡ have_types (operand_types l.types) l.wanted
