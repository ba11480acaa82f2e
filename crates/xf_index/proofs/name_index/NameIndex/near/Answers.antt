use Rattle.std.proofs.Common.{rules}
use Rattle.xf_index.proofs.IndexLemmas.{near_all, near_below}
use Rattle.xf_index.proofs.name_index.NameIndex.near.Goals as goal

pub returns-clause-within : goal.returns-clause-within
returns-clause-within c = rw c.of.ensures (near_below _ _ _ _ _ c.self.invariant c.self.view_is c.members.ensures)

pub returns-clause-all : goal.returns-clause-all
returns-clause-all c = rw c.of.ensures (near_all _ _ _ _ _ _ c.self.invariant c.self.view_is c.members.ensures
    (search rules))
