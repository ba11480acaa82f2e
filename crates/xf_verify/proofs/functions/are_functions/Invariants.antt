use Rattle.std.proofs.Common.{◌≡◌, drop}
use Rattle.xf_ir.specs.View.{ops_of}
use Rattle.xf_ir.specs.Violations.{functions_alone}
use Rattle.xf_verify.proofs.functions.are_functions.Given as goal

-- what is left decides
abbrev pub invariant-loop-op : goal.invariant-loop-op
invariant-loop-op l = functions_alone (ops_of (drop l.op-index l.ops)) ≡ functions_alone (ops_of l.ops)
