use Rattle.xf_ir_laws.proofs.ErasingLaws.{lowers_weight}
use Rattle.xf_ir_laws.proofs.laws.erasing_lowers_weight.Goals as goal

pub returns : goal.returns
returns c = lowers_weight
