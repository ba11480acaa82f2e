use Rattle.xf_uses.proofs.CellLemmas.{loose_room, loose_full}
use Rattle.xf_uses.proofs.use_lists.UseLists.is_full.Goals as goal

pub returns-in-Some : goal.returns-in-Some
returns-in-Some c = record {
  yes = tt;
  no =
      loose_room _ _ _ _ _ c.self.invariant c.self.view_is c.in-Some.ensures.found;
}

pub returns-in-None : goal.returns-in-None
returns-in-None c = record {
  yes = loose_full _ _ _ _ c.self.invariant c.self.view_is c.in-None.ensures.none;
  no =
      tt;
}
