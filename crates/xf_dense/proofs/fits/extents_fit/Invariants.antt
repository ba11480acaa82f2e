use Rattle.std.proofs.Common.{◌≡◌, length}
use Rattle.xf_dense.specs.Fits.{extents_fit}
use Rattle.xf_dense.proofs.fits.extents_fit.Given as goal

-- what is left fits where all fits
abbrev pub invariant-dims : goal.invariant-dims
invariant-dims l = extents_fit l.dims l.extents ≡ extents_fit l.fn.dims l.fn.extents

abbrev pub decreases-dims : goal.decreases-dims
decreases-dims l = length l.dims
