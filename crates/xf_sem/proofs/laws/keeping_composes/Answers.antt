use Rattle.xf_sem.proofs.Keeping.{keeping_composes}
use Rattle.xf_sem.proofs.laws.keeping_composes.Goals as goal

pub returns : goal.returns
returns c = keeping_composes
