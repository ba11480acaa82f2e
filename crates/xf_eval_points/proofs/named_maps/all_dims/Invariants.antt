use Rattle.std.proofs.Common.{◌≡◌, ◌++◌, ◌-◌}
use Rattle.xf_ir.specs.RuleLinalg.{counted}
use Rattle.xf_eval_points.proofs.named_maps.all_dims.Given as goal

abbrev pub invariant-loop-dim : goal.invariant-loop-dim
invariant-loop-dim l = l.dims.items ++ counted l.dim (l.rank - l.dim) ≡ counted 0 l.rank
