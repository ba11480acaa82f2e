use Rattle.xf_sem.proofs.Products.{named_is_generic}
use Rattle.xf_sem.proofs.laws.named_is_generic.Goals as goal

pub returns : goal.returns
returns c = named_is_generic
