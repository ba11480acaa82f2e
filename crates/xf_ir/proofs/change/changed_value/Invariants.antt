use Rattle.std.proofs.Common.{◌≡◌, drop}
use Rattle.xf_ir.specs.Changes.{value_changed}
use Rattle.xf_ir.proofs.change.changed_value.Given as goal

-- what is left of the changes gives what all give
abbrev pub invariant-loop-change : goal.invariant-loop-change
invariant-loop-change l = value_changed (drop l.change-index l.changes) l.op l.operand l.value
    ≡ value_changed l.changes l.op l.operand l.value
