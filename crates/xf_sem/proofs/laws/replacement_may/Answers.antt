use Rattle.xf_sem.proofs.Placing.{replacement_may}
use Rattle.xf_sem.proofs.laws.replacement_may.Goals as goal

pub returns : goal.returns
returns c = replacement_may
