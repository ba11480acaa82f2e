use Rattle.xf_sem.proofs.Fits.{fitting_is_tested}
use Rattle.xf_sem.proofs.laws.fitting_is_tested.Goals as goal

pub returns : goal.returns
returns c = fitting_is_tested
