use Rattle.std.proofs.Common.{◌≡◌, drop}
use Rattle.xf_rules_shape.specs.Dims.{with_results}
use Rattle.xf_rules_shape.proofs.maps.add_results.Given as goal

-- what is there with what is left is the whole
abbrev pub invariant-loop-map : goal.invariant-loop-map
invariant-loop-map l = with_results l.dims (drop l.map-index l.maps) ≡ with_results l.fn.dims l.maps
