use Rattle.xf_rings.proofs.GroupLemmas.{left}
use Rattle.xf_rings.proofs.groups.Groups.leave.Goals as goal

pub invariant_of-self : goal.invariant_of-self
invariant_of-self c = rw c.unlink-before.ensures.done
    (left _ _ _ _ _ c.self.invariant c.self.view_is c.requires.at_in c.requires.other
    c.unlink-before.ensures.before)
