use Rattle.xf_rings.proofs.MirrorLemmas.{link_done, link_is}
use Rattle.xf_rings.proofs.rings.Rings.link.Goals as goal

pub invariant_of-self : goal.invariant_of-self
invariant_of-self c = link_done _ _ _ _ _ _ c.self.invariant c.self.view_is c.requires.before_in c.requires.at_in
    c.requires.loose c.requires.other c.index-after.ensures

pub returns : goal.returns
returns c = link_is _ _ _ _ _ c.self.view_is c.requires.before_in c.index-after.ensures
