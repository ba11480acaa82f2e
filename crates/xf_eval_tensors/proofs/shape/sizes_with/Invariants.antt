use Rattle.std.proofs.Common.{◌≡◌, ◌≤◌, length, drop}
use Rattle.xf_eval_tensors.specs.Indices.{all_before}
use Rattle.xf_eval_tensors.specs.Sizes.{sizes_in}
use Rattle.xf_eval_tensors.proofs.shape.sizes_with.Given as goal

abbrev pub invariant-loop-dim : goal.invariant-loop-dim
invariant-loop-dim l =
    (all_before l.sizes (sizes_in (drop l.dim-index l.dims) (drop l.next l.numbers)) ≡ sizes_in l.dims l.numbers)
    × (l.next ≤ length l.numbers)
