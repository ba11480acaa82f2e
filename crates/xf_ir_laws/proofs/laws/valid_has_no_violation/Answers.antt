use Rattle.xf_ir_laws.proofs.ViolationLaw.{valid_has_no_violation}
use Rattle.xf_ir_laws.proofs.laws.valid_has_no_violation.Goals as goal

pub returns : goal.returns
returns c = valid_has_no_violation
