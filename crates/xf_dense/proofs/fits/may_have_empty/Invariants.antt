use Rattle.std.proofs.Common.{◌≡◌, drop}
use Rattle.std.specs.List.{list_any}
use Rattle.xf_dense.specs.Fits.{may_be_empty}
use Rattle.xf_dense.proofs.fits.may_have_empty.Given as goal

-- what is left decides
abbrev pub invariant-loop-dim : goal.invariant-loop-dim
invariant-loop-dim l = list_any may_be_empty (drop l.dim-index l.dims) ≡ list_any may_be_empty l.dims
