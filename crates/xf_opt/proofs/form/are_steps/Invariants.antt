use Rattle.std.proofs.Common.{◌≡◌, drop}
use Rattle.xf_ir.specs.View.{ops_of}
use Rattle.xf_opt.specs.Form.{are_steps}
use Rattle.xf_opt.proofs.form.are_steps.Given as goal

-- what is left passes where the whole does
abbrev pub invariant-loop-op : goal.invariant-loop-op
invariant-loop-op l = are_steps (ops_of (drop l.op-index l.ops)) ≡ are_steps (ops_of l.ops)
