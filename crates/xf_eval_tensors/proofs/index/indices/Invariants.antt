use Rattle.std.proofs.Common.{◌≡◌, drop}
use Rattle.xf_sem.specs.Tensors.{indices_of}
use Rattle.xf_eval_tensors.specs.Indices.{all_before}
use Rattle.xf_eval_tensors.proofs.index.indices.Given as goal

abbrev pub invariant-loop-arg : goal.invariant-loop-arg
invariant-loop-arg l = all_before l.numbers (indices_of (drop l.arg-index l.args)) ≡ indices_of l.args
