use Rattle.std.proofs.Common.{◌≡◌, drop, ◌++◌}
use Rattle.std.specs.Prelude.{map}
use Rattle.xf_type.specs.declared.payload_type.Dim.TheVariants.{Fixed}
use Rattle.xf_results.proofs.constant.dims_of.Given as goal

abbrev pub invariant-loop-size : goal.invariant-loop-size
invariant-loop-size l = l.dims.items ++ map Fixed (drop l.size-index l.sizes) ≡ map Fixed l.sizes
