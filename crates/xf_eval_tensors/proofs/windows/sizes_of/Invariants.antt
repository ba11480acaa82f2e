use Rattle.std.proofs.Common.{◌≡◌, take}
use Rattle.xf_eval_tensors.specs.Slices.{span_sizes}
use Rattle.xf_eval_tensors.proofs.windows.sizes_of.Given as goal

abbrev pub invariant-loop-span : goal.invariant-loop-span
invariant-loop-span l = l.sizes ≡ span_sizes (take l.span-index l.spans)
