use Rattle.xf_eval_tensors.specs.Dense.{AllFit}
use Rattle.xf_eval_tensors.proofs.constant.first_fit.Given as goal

abbrev pub invariant-loop-at : goal.invariant-loop-at
invariant-loop-at l = AllFit l.width l.numbers l.at
