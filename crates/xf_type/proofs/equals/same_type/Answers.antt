use Rattle.xf_type.proofs.EqualTypes.{same_type_by}
use Rattle.xf_type.proofs.equals.same_type.Goals as goal

pub returns : goal.returns
returns c = same_type_by c.equals.result c.args.a.now c.args.b.now c.equals.ensures
