use Rattle.std.proofs.Common.{◌≡◌, take}
use Rattle.std.specs.Prelude.{map}
use Rattle.xf_ir.specs.Lists.{every}
use Rattle.xf_verify.specs.Chains.{ends_at}
use Rattle.xf_verify.proofs.calls.one_longer.Given as goal

abbrev pub invariant-loop-callees : goal.invariant-loop-callees
invariant-loop-callees l = l.longer.items ≡ map (every (ends_at l.ends)) (take l.callees-index l.calls)
