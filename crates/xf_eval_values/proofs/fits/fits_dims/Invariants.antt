use Rattle.std.proofs.Common.{◌≡◌, drop}
use Rattle.xf_sem.specs.Values.{fits_dims}
use Rattle.xf_eval_values.proofs.fits.fits_dims.Given as goal

abbrev pub invariant-loop-at : goal.invariant-loop-at
invariant-loop-at l = fits_dims (drop l.at l.sizes) (drop l.at l.dims) ≡ fits_dims l.sizes l.dims
