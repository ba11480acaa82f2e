use Rattle.std.proofs.Common.{◌≡◌, drop}
use Rattle.xf_ir.specs.Types.{have_types}
use Rattle.xf_rules.specs.OperandTypes.{operand_types, scalars}
use Rattle.xf_rules.proofs.types.have_scalars.Given as goal

abbrev pub invariant-loop-at : goal.invariant-loop-at
invariant-loop-at l = have_types (operand_types (drop l.at l.types)) (scalars (drop l.at l.widths))
    ≡ have_types (operand_types l.types) (scalars l.widths)
