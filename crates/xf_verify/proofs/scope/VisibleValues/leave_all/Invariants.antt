use Rattle.std.proofs.Common.{◌≡◌, drop}
use Rattle.xf_verify.specs.Visible.{definitions_in, without}
use Rattle.xf_verify.proofs.scope.VisibleValues.leave_all.Given as goal

-- without what is left it is what is wanted
abbrev pub invariant-loop-op : goal.invariant-loop-op
invariant-loop-op l = without (drop l.op-index l.ops) (definitions_in l.self) ≡ without l.ops (definitions_in l.fn.self)
