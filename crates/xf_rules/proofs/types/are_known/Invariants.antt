use Rattle.std.proofs.Common.{◌≡◌, drop}
use Rattle.xf_ir.specs.Lists.{every}
use Rattle.xf_ir.specs.Types.{known}
use Rattle.xf_rules.specs.OperandTypes.{operand_types}
use Rattle.xf_rules.proofs.types.are_known.Given as goal

abbrev pub invariant-loop-ty : goal.invariant-loop-ty
invariant-loop-ty l = every known (operand_types (drop l.ty-index l.types)) ≡ every known (operand_types l.types)
