use Rattle.std.proofs.Common.{◌≡◌, drop}
use Rattle.xf_ir.specs.RuleSlices.{sizes_fit}
use Rattle.xf_rules_shape.proofs.slices.sizes_fit.Given as goal

abbrev pub invariant-loop-at : goal.invariant-loop-at
invariant-loop-at l = sizes_fit (drop l.at l.sizes) (drop l.at l.dims) ≡ sizes_fit l.sizes l.dims
