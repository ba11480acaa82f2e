use Rattle.xf_sem.proofs.Names.{names_do_not_matter}
use Rattle.xf_sem.proofs.laws.names_do_not_matter.Goals as goal

pub returns : goal.returns
returns c = names_do_not_matter
