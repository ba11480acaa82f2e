use Rattle.xf_ir_laws.proofs.Scopes.{scoped}
use Rattle.xf_ir_laws.proofs.laws.valid_is_scoped.Goals as goal

pub returns : goal.returns
returns c = scoped
