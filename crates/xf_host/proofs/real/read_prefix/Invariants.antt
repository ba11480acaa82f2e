use Rattle.std.proofs.Common.{◌-◌, ◌≤◌}
use Rattle.xf_host.specs.Reads.{AppendsAtMost}
use Rattle.xf_host.proofs.real.read_prefix.Given as goal

abbrev pub invariant-loop-left : goal.invariant-loop-left
invariant-loop-left g l =
    record { within : l.left ≤ l.max; so_far : AppendsAtMost (l.max - l.left) l.initial.into.items l.into.items }

abbrev pub decreases-loop-left : goal.decreases-loop-left
decreases-loop-left g l = l.left
