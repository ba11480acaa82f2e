use Rattle.std.proofs.Common.{◌≡◌, drop}
use Rattle.xf_ir.specs.Used.{with_uses}
use Rattle.xf_ir.proofs.dead.add_uses.Given as goal

-- what is there with what is left is the whole
abbrev pub invariant-loop-value : goal.invariant-loop-value
invariant-loop-value l = with_uses l.used (drop l.value-index l.values) ≡ with_uses l.fn.used l.values
