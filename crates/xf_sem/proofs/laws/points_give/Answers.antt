use Rattle.xf_sem.proofs.Points.{points_give}
use Rattle.xf_sem.proofs.laws.points_give.Goals as goal

pub returns : goal.returns
returns c = points_give
