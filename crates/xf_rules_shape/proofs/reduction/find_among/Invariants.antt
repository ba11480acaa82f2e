use Rattle.std.proofs.Common.{◌≡◌, drop}
use Rattle.xf_ir.specs.Walk.{ops_find}
use Rattle.xf_ir.specs.View.{ops_of}
use Rattle.xf_rules_shape.proofs.reduction.find_among.Given as goal

-- the first in what is left is the first in the whole
abbrev pub invariant-loop-op : goal.invariant-loop-op
invariant-loop-op l = ops_find l.name (ops_of (drop l.op-index l.ops)) ≡ ops_find l.name (ops_of l.ops)
