use Rattle.std.proofs.Common.{◌≡◌, ◌≤◌, length, drop}
use Rattle.xf_eval_tensors.specs.Indices.{all_before}
use Rattle.xf_eval_tensors.specs.Slices.{settled_in}
use Rattle.xf_eval_tensors.proofs.windows.settled.Given as goal

abbrev pub invariant-loop-index : goal.invariant-loop-index
invariant-loop-index l =
    (all_before l.all (settled_in (drop l.index-index l.indices) (drop l.next l.numbers))
    ≡ settled_in l.indices l.numbers)
    × (l.next ≤ length l.numbers)
