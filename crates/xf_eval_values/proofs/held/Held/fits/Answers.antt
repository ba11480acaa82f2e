use Rattle.std.proofs.Common.{◌≡◌, true, subst}
use Rattle.xf_sem.specs.Values.{is_value}
use Rattle.xf_eval_values.proofs.Values.{is_value_when}
use Rattle.xf_eval_values.proofs.held.Held.fits.Goals as goal

pub returns-in-Shared-clause-is_value : goal.returns-in-Shared-clause-is_value
returns-in-Shared-clause-is_value c =
    subst (λ v. is_value v ≡ true) c.self.view_is (is_value_when _ c.self.invariant)
