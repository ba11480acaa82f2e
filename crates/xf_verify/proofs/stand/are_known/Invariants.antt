use Rattle.std.proofs.Common.{◌≡◌, drop}
use Rattle.xf_ir.specs.Lists.{every}
use Rattle.xf_ir.specs.Types.{known}
use Rattle.xf_rules.specs.OperandTypes.{operand_types}
use Rattle.xf_verify.proofs.stand.are_known.Given as goal

abbrev pub invariant-loop-found : goal.invariant-loop-found
invariant-loop-found l = every known (operand_types (drop l.found-index l.types)) ≡ every known (operand_types l.types)
