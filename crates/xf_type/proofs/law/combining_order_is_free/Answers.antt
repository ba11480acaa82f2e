use Rattle.xf_type.proofs.LawLemmas.{combined_comm, combined_assoc}
use Rattle.xf_type.proofs.law.combining_order_is_free.Goals as goal

pub returns-clause-commutes : goal.returns-clause-commutes
returns-clause-commutes c = combined_comm

pub returns-clause-associates : goal.returns-clause-associates
returns-clause-associates c = combined_assoc
