use Rattle.xf_sem.proofs.Erasing.{erasing_keeps}
use Rattle.xf_sem.proofs.laws.erasing_keeps.Goals as goal

pub returns : goal.returns
returns c = erasing_keeps
