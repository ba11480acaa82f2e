use Rattle.xf_sem.proofs.Defined.{plain_is_defined}
use Rattle.xf_sem.proofs.laws.plain_is_defined.Goals as goal

pub returns : goal.returns
returns c = plain_is_defined
