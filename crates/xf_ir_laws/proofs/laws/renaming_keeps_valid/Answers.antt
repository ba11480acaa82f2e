use Rattle.xf_ir_laws.proofs.RenamedValid.{renaming_keeps_valid}
use Rattle.xf_ir_laws.proofs.laws.renaming_keeps_valid.Goals as goal

pub returns : goal.returns
returns c = renaming_keeps_valid
