use Rattle.xf_structured.proofs.Reducing.{body_reduces, body_is_total}
use Rattle.xf_structured.proofs.laws.bodies_give.Goals as goal

pub returns-clause-reduces : goal.returns-clause-reduces
returns-clause-reduces c = body_reduces

pub returns-clause-total : goal.returns-clause-total
returns-clause-total c = body_is_total
