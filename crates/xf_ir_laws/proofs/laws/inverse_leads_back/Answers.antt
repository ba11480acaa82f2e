use Rattle.xf_ir_laws.proofs.InverseLaws.{leads_back}
use Rattle.xf_ir_laws.proofs.laws.inverse_leads_back.Goals as goal

pub returns : goal.returns
returns c = leads_back
