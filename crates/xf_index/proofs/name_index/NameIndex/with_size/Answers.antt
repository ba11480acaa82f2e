use Rattle.std.proofs.Common.{rules}
use Rattle.xf_index.proofs.IndexLemmas.{fresh}
use Rattle.xf_index.proofs.name_index.NameIndex.with_size.Goals as goal

pub invariant_of-result : goal.invariant_of-result
invariant_of-result c = fresh _ _ _ (search rules) (search rules) c.requires
