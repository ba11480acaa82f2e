use Rattle.std.proofs.Common.{◌≡◌, drop}
use Rattle.xf_eval_tensors.specs.Indices.{all_before, point_in}
use Rattle.xf_eval_tensors.proofs.index.index_in.Given as goal

abbrev pub invariant-loop-at : goal.invariant-loop-at
invariant-loop-at l =
    all_before l.index (point_in (drop l.at l.sizes) (drop l.at l.args)) ≡ point_in l.sizes l.args
