use Rattle.xf_sem.proofs.Replacing.{replacing_keeps}
use Rattle.xf_sem.proofs.laws.replacing_keeps.Goals as goal

pub returns : goal.returns
returns c = replacing_keeps
