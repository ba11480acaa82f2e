use Rattle.std.proofs.Common.{◌≡◌, ◌++◌, drop}
use Rattle.xf_ir.specs.Changes.{operands_changed}
use Rattle.xf_ir.proofs.change.changed_operands.Given as goal

-- what is changed and what is left to change are the whole
abbrev pub invariant-loop-operand : goal.invariant-loop-operand
invariant-loop-operand l = l.changed ++ operands_changed l.changes l.op l.operand (drop l.operand l.operands)
    ≡ operands_changed l.changes l.op 0 l.operands
