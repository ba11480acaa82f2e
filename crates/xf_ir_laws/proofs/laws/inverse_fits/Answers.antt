use Rattle.xf_ir_laws.proofs.InverseFits.{inverse_fits}
use Rattle.xf_ir_laws.proofs.laws.inverse_fits.Goals as goal

pub returns : goal.returns
returns c = inverse_fits
