use Rattle.std.proofs.Common.{sym, ◌∙◌}
use Rattle.xf_rings.proofs.GroupLemmas.{stepped}
use Rattle.xf_rings.proofs.members.Members.advance.Goals as goal

pub invariant_of-self : goal.invariant_of-self
invariant_of-self c = (stepped _ _ _ _ c.self.invariant c.next-next.ensures.value c.if-next-self.false
    c.next-next.ensures.within).1

pub returns-clause-left : goal.returns-clause-left
returns-clause-left c = sym c.self.view_is
    ∙ (stepped _ _ _ _ c.self.invariant c.next-next.ensures.value c.if-next-self.false c.next-next.ensures.within).0
