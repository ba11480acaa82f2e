use Rattle.std.proofs.Common.{sym, ap, ◌∙◌}
use Rattle.xf_shape.specs.Shapes.{DimsFirst}
use Rattle.xf_shape.proofs.Dimensions.{dims_turn, turn_shorter}
use Rattle.xf_shape.proofs.shape.behind_dims.Goals as goal

pub dim-smaller : goal.dim-smaller
dim-smaller c = turn_shorter c.dim.rest.now _ _ c.in-Some.ensures

pub dim-preserved : goal.dim-preserved
dim-preserved c =
    let t = dims_turn c.dim.rest.now _ _ c.in-Some.ensures in
    sym (ap (λ (y : DimsFirst). y.rest) t) ∙ c.dim.invariant
