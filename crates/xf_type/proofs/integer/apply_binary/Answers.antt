use Rattle.xf_type.proofs.LawLemmas.{number_fits}
use Rattle.xf_type.proofs.integer.apply_binary.Goals as goal

pub returns-in-Num-Num-clause-fits : goal.returns-in-Num-Num-clause-fits
returns-in-Num-Num-clause-fits c =
    rw c.binary_number.ensures
    (number_fits _ _ _ _
    (rw c.in-Num-Num.is-0 at c.requires.a_fits)
    (rw c.in-Num-Num.is-1 at c.requires.b_fits))
