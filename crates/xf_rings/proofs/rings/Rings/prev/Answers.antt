use Rattle.xf_rings.proofs.MirrorLemmas.{prev_is}
use Rattle.xf_rings.proofs.rings.Rings.prev.Goals as goal

pub returns : goal.returns
returns c = prev_is _ _ _ _ _ c.self.invariant c.self.view_is c.requires c.index.ensures
