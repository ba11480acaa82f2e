use Rattle.std.proofs.Common.{◌≡◌, drop}
use Rattle.xf_ir.specs.Lists.{every}
use Rattle.xf_verify.specs.Chains.{ends_at}
use Rattle.xf_verify.proofs.calls.all_end.Given as goal

-- what is left decides
abbrev pub invariant-loop-callee : goal.invariant-loop-callee
invariant-loop-callee l = every (ends_at l.ends) (drop l.callee-index l.callees) ≡ every (ends_at l.ends) l.callees
