use Rattle.std.proofs.Common.{◌≡◌}
use Rattle.xf_verify.specs.Chains.{ends_after}
use Rattle.xf_verify.proofs.calls.ends_of.Given as goal

abbrev pub invariant-loop-passed : goal.invariant-loop-passed
invariant-loop-passed l = l.ends.items ≡ ends_after l.passed l.calls
