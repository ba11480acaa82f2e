use Rattle.xf_sem.proofs.Copying.{copying_keeps}
use Rattle.xf_sem.proofs.laws.copying_keeps.Goals as goal

pub returns : goal.returns
returns c = copying_keeps
