use Rattle.xf_rings.proofs.MirrorLemmas.{unlink_done, unlink_is, prev_is}
use Rattle.xf_rings.proofs.rings.Rings.unlink.Goals as goal

pub invariant_of-self : goal.invariant_of-self
invariant_of-self c = unlink_done _ _ _ _ _ _ c.self.invariant c.self.view_is c.requires c.index-before.ensures
    c.index-after.ensures

pub returns-clause-before : goal.returns-clause-before
returns-clause-before c = prev_is _ _ _ _ _ c.self.invariant c.self.view_is c.requires c.index-before.ensures

pub returns-clause-done : goal.returns-clause-done
returns-clause-done c = unlink_is _ _ _ _ _ _ c.self.invariant c.self.view_is c.requires c.index-before.ensures
    c.index-after.ensures
