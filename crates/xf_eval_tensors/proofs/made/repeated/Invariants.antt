use Rattle.std.proofs.Common.{◌≡◌, replicate}
use Rattle.xf_eval_tensors.proofs.made.repeated.Given as goal

abbrev pub invariant-loop-at : goal.invariant-loop-at
invariant-loop-at l = l.elems.items ≡ replicate l.at l.elem
