use Rattle.xf_type.proofs.EqualTypes.{same_shape_by}
use Rattle.xf_type.proofs.equals.same_shape.Goals as goal

pub returns : goal.returns
returns c = same_shape_by c.equals.result c.args.a.now c.args.b.now c.equals.ensures
