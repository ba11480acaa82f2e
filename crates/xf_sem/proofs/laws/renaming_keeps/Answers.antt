use Rattle.xf_sem.proofs.Renaming.{renaming_keeps}
use Rattle.xf_sem.proofs.laws.renaming_keeps.Goals as goal

pub returns : goal.returns
returns c = renaming_keeps
