use Rattle.xf_sem.proofs.Fitting.{values_fit}
use Rattle.xf_sem.proofs.Returned.{returned_fit}
use Rattle.xf_sem.proofs.laws.values_fit.Goals as goal

pub returns-clause-operations : goal.returns-clause-operations
returns-clause-operations c = values_fit

pub returns-clause-returned : goal.returns-clause-returned
returns-clause-returned c = returned_fit
