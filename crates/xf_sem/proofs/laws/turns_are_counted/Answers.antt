use Rattle.xf_sem.proofs.Turns.{turns_are_counted}
use Rattle.xf_sem.proofs.laws.turns_are_counted.Goals as goal

pub returns : goal.returns
returns c = turns_are_counted
