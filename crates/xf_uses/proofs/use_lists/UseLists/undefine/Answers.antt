use Rattle.xf_uses.proofs.MoveLemmas.{undefine_view, gives_view, unused_view}
use Rattle.xf_uses.proofs.use_lists.UseLists.undefine.Goals as goal

pub invariant_of-self : goal.invariant_of-self
invariant_of-self c = (undefine_view _ _ _ _ _ _ _ _ c.self.invariant c.self.view_is c.cell-cell.ensures
    c.requires.unused c.join.ensures c.remove.ensures).kept_cells

pub returns-clause-values : goal.returns-clause-values
returns-clause-values c = (undefine_view _ _ _ _ _ _ _ _ c.self.invariant c.self.view_is c.cell-cell.ensures
    c.requires.unused c.join.ensures c.remove.ensures).changes

pub returns-clause-room : goal.returns-clause-room
returns-clause-room c = gives_view _ _ _ _ _ _ _ c.self.invariant c.self.view_is c.cell-cell.ensures

pub join-requires-clause-alone : goal.join-requires-clause-alone
join-requires-clause-alone c = unused_view _ _ _ _ _ _ c.self.invariant c.self.view_is c.cell-cell.ensures
    c.requires.unused
