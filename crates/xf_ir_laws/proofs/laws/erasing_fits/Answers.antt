use Rattle.xf_ir_laws.proofs.ErasingLaws.{fits}
use Rattle.xf_ir_laws.proofs.laws.erasing_fits.Goals as goal

pub returns : goal.returns
returns c = fits
