use Rattle.std.proofs.Common.{rules}
use Rattle.xf_rings.proofs.GrowLemmas.{mirror_twice}
use Rattle.xf_rings.proofs.rings.Rings.grow_twice.Goals as goal

pub invariant_of-self-2 : goal.invariant_of-self-2
invariant_of-self-2 c =
    mirror_twice _ _ _ _ _ _ _ _ _ c.self.invariant c.reserve.ensures.items c.reserve-2.ensures.items (search rules)
    c.push_reserved.ensures.items c.push_reserved-2.ensures.items c.push_reserved-3.ensures.items
    c.push_reserved-4.ensures.items
