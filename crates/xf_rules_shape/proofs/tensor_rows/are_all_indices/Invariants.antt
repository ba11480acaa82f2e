use Rattle.std.proofs.Common.{◌≡◌, drop}
use Rattle.xf_ir.specs.Lists.{every}
use Rattle.xf_rules.specs.OperandTypes.{operand_types, is_index_type}
use Rattle.xf_rules_shape.proofs.tensor_rows.are_all_indices.Given as goal

-- what is left passes where the whole does
abbrev pub invariant-loop-ty : goal.invariant-loop-ty
invariant-loop-ty l =
    every is_index_type (operand_types (drop l.ty-index l.types)) ≡ every is_index_type (operand_types l.types)
