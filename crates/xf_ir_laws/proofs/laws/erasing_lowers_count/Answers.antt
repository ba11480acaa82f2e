use Rattle.xf_ir_laws.proofs.ErasingLaws.{lowers_count}
use Rattle.xf_ir_laws.proofs.laws.erasing_lowers_count.Goals as goal

pub returns : goal.returns
returns c = lowers_count
