use Rattle.std.proofs.Common.{◌≡◌, drop}
use Rattle.xf_sem.specs.Values.{fit_types}
use Rattle.xf_eval_values.proofs.fits.fit_types.Given as goal

abbrev pub invariant-loop-at : goal.invariant-loop-at
invariant-loop-at l = fit_types (drop l.at l.values) (drop l.at l.types) ≡ fit_types l.values l.types
