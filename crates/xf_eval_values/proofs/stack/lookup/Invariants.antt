use Rattle.std.proofs.Common.{◌≡◌, ◌≤◌, length, take}
use Rattle.xf_eval_values.specs.Stack.{env_of}
use Rattle.xf_eval_values.proofs.stack.lookup.Given as goal

abbrev pub invariant-loop-at : goal.invariant-loop-at
invariant-loop-at l = (l.at ≤ length l.entries) × (env_of (take l.at l.entries) l.name ≡ env_of l.entries l.name)

abbrev pub decreases-loop-at : goal.decreases-loop-at
decreases-loop-at l = l.at
