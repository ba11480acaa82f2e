use Rattle.std.proofs.Common.{◌≡◌, drop}
use Rattle.xf_sem.specs.Structured.{extent_in}
use Rattle.xf_eval_points.proofs.frame.extent_in.Given as goal

abbrev pub invariant-loop-at : goal.invariant-loop-at
invariant-loop-at l = extent_in l.dim (drop l.at l.map) (drop l.at l.sizes) ≡ extent_in l.dim l.map l.sizes
