use Rattle.xf_sem.proofs.Same.{same_replaces}
use Rattle.xf_sem.proofs.laws.same_replaces.Goals as goal

pub returns : goal.returns
returns c = same_replaces
