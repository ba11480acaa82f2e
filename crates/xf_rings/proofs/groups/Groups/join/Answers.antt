use Rattle.xf_rings.proofs.GroupLemmas.{alone_next, joined}
use Rattle.xf_rings.proofs.groups.Groups.join.Goals as goal

pub link-requires-clause-loose : goal.link-requires-clause-loose
link-requires-clause-loose c = alone_next _ _ _ _ c.self.invariant c.self.view_is c.requires.at_in c.requires.loose
    c.requires.alone

pub invariant_of-self : goal.invariant_of-self
invariant_of-self c = rw c.link.ensures (joined _ _ _ _ _ c.self.invariant c.self.view_is c.requires.at_in
    c.requires.head_in c.requires.alone c.requires.loose c.requires.is_head c.requires.other)
