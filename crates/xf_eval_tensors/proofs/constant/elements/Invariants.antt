use Rattle.std.proofs.Common.{◌≡◌}
use Rattle.xf_eval_tensors.specs.Dense.{dense_list}
use Rattle.xf_eval_tensors.proofs.constant.elements.Given as goal

abbrev pub invariant-loop-at : goal.invariant-loop-at
invariant-loop-at l = l.elems.items ≡ dense_list l.numbers l.at
