use Rattle.std.proofs.Common.{◌≡◌, drop}
use Rattle.std.specs.List.{list_any}
use Rattle.xf_dense.specs.Fits.{is_empty}
use Rattle.xf_dense.proofs.fits.has_empty.Given as goal

-- what is left decides
abbrev pub invariant-loop-dim : goal.invariant-loop-dim
invariant-loop-dim l = list_any is_empty (drop l.dim-index l.dims) ≡ list_any is_empty l.dims
