use Rattle.xf_index.proofs.IndexLemmas.{alone_of}
use Rattle.xf_index.proofs.name_index.NameIndex.put.Goals as goal

pub join-requires-clause-alone : goal.join-requires-clause-alone
join-requires-clause-alone c = alone_of _ _ _ c.self.invariant
