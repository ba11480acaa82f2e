use Rattle.xf_sem.proofs.Surroundings.{surroundings_keep}
use Rattle.xf_sem.proofs.laws.surroundings_keep.Goals as goal

pub returns : goal.returns
returns c = surroundings_keep
