use Rattle.std.proofs.Common.{◌≡◌, drop}
use Rattle.std.specs.Prelude.{map}
use Rattle.std.specs.List.{list_all}
use Rattle.xf_dense.specs.Fits.{may_be, is_truth}
use Rattle.xf_dense.proofs.fits.literals_fit.Given as goal

-- what is left decides
abbrev pub invariant-loop-literal : goal.invariant-loop-literal
invariant-loop-literal l = list_all (may_be l.width) (map is_truth (drop l.literal-index l.literals)) ≡ list_all
    (may_be l.width) (map is_truth l.literals)
