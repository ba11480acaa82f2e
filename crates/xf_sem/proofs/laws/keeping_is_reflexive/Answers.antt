use Rattle.xf_sem.proofs.Keeping.{keeping_is_reflexive}
use Rattle.xf_sem.proofs.laws.keeping_is_reflexive.Goals as goal

pub returns : goal.returns
returns c = keeping_is_reflexive
