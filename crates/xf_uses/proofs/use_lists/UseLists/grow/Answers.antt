use Rattle.std.proofs.Common.{rules}
use Rattle.xf_uses.proofs.GrowLemmas.{grown_alone, grown_cells, roomier}
use Rattle.xf_uses.proofs.use_lists.UseLists.grow.Goals as goal

pub join-requires-clause-alone : goal.join-requires-clause-alone
join-requires-clause-alone c = grown_alone _ _ _ _ _ c.self.invariant c.in_ok-grow.ensures.ok (search rules)

pub invariant_of-self-2 : goal.invariant_of-self-2
invariant_of-self-2 c =
    grown_cells _ _ _ _ _ _ _ _ c.len-cell.result c.self.invariant (search rules) c.grow_index.ensures.same
    (search rules) c.reserve.ensures.items c.push_reserved.ensures.items c.in_ok-grow.ensures.ok c.join.ensures

pub returns-clause-ok : goal.returns-clause-ok
returns-clause-ok c =
    roomier _ _ _ _ _ _ _ c.len-cell.result _ c.self.invariant c.self.view_is (search rules)
    c.reserve.ensures.items c.push_reserved.ensures.items c.in_ok-grow.ensures.ok c.join.ensures
