use Rattle.std.proofs.Common.{◌≡◌, drop}
use Rattle.xf_ir.specs.Lists.{every}
use Rattle.xf_ir.specs.RuleLinalg.{is_projection}
use Rattle.xf_rules_shape.proofs.maps.are_projections.Given as goal

abbrev pub invariant-loop-map : goal.invariant-loop-map
invariant-loop-map l = every (is_projection l.count) (drop l.map-index l.maps) ≡ every (is_projection l.count) l.maps
