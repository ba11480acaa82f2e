use Rattle.std.proofs.Common.{◌≡◌, take}
use Rattle.xf_format.proofs.columns.types_behind.Given as goal

abbrev pub invariant-loop-ty : goal.invariant-loop-ty
invariant-loop-ty l = l.behind ≡ take l.ty-index l.rest
