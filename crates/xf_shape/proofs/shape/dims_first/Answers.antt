use Rattle.std.proofs.Common.{[], ◌∷◌, ◌++◌, sym, ap, ◌∙◌, append_assoc, append-nil}
use Rattle.xf_shape.specs.Shapes.{DimsFirst}
use Rattle.xf_shape.proofs.Dimensions.{dims_stop, dims_turn, turn_shorter}
use Rattle.xf_shape.proofs.shape.dims_first.Goals as goal

pub dim-smaller : goal.dim-smaller
dim-smaller c = turn_shorter c.dim.rest.now _ _ c.in-Some.ensures

pub dim-preserved : goal.dim-preserved
dim-preserved c =
    let t = dims_turn c.dim.rest.now _ _ c.in-Some.ensures in
    let before = append_assoc c.dim.dims (c.in-Some.dim ∷ []) _ in
    rw c.in_ok-push.ensures.ok (before ∙ sym (ap (λ (y : DimsFirst). c.dim.dims ++ y.dims) t) ∙ c.dim.invariant)

pub returns : goal.returns
returns c =
    let t = dims_stop c.dim.rest.now c.in_default.ensures in
    sym (append-nil c.dim.dims) ∙ sym (ap (λ (y : DimsFirst). c.dim.dims ++ y.dims) t) ∙ c.dim.invariant
