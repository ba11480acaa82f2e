use Rattle.std.proofs.Common.{◌≡◌, ◌++◌, drop}
use Rattle.std.specs.Prelude.{map}
use Rattle.xf_rules.specs.OperandTypes.{operand_types}
use Rattle.xf_verify.specs.Visible.{types_in}
use Rattle.xf_verify.proofs.scope.VisibleValues.operand_types.Given as goal

-- the types so far and those of what is left
abbrev pub invariant-loop-value : goal.invariant-loop-value
invariant-loop-value l =
    operand_types l.types.items ++ map (types_in l.self) (drop l.value-index l.values) ≡ map (types_in l.self) l.values
