use Rattle.xf_ir_laws.proofs.ErasingLaws.{valid_kept}
use Rattle.xf_ir_laws.proofs.laws.erasing_keeps_valid.Goals as goal

pub returns : goal.returns
returns c = valid_kept
