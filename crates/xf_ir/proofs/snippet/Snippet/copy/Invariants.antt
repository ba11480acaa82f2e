use Rattle.std.proofs.Common.{◌≡◌, take}
use Rattle.xf_ir.proofs.snippet.Snippet.copy.Given as goal

-- the copies are the operations so far
abbrev pub invariant-loop-op : goal.invariant-loop-op
invariant-loop-op l = l.ops.items ≡ take l.op-index l.op-items
