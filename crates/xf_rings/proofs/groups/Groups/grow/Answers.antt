use Rattle.std.proofs.Common.{rules}
use Rattle.xf_rings.proofs.GrowLemmas.{grow_done}
use Rattle.xf_rings.proofs.groups.Groups.grow.Goals as goal

pub invariant_of-self-2 : goal.invariant_of-self-2
invariant_of-self-2 c =
    grow_done _ _ _ _ _ _ c.self.invariant c.in_ok-grow.ensures.ok c.reserve.ensures.items
    c.push_reserved.ensures.items
    (search rules)
