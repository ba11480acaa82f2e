use Rattle.xf_uses.proofs.MoveLemmas.{remove_view, gives_view}
use Rattle.xf_uses.proofs.use_lists.UseLists.remove.Goals as goal

pub invariant_of-self : goal.invariant_of-self
invariant_of-self c = (remove_view _ _ _ _ _ _ _ _ _ c.self.invariant c.self.view_is c.cell-cell.ensures
    (rw c.leave.ensures at c.join.ensures) c.remove.ensures).kept_cells

pub returns-clause-operands : goal.returns-clause-operands
returns-clause-operands c = (remove_view _ _ _ _ _ _ _ _ _ c.self.invariant c.self.view_is c.cell-cell.ensures
    (rw c.leave.ensures at c.join.ensures) c.remove.ensures).changes

pub returns-clause-room : goal.returns-clause-room
returns-clause-room c = gives_view _ _ _ _ _ _ _ c.self.invariant c.self.view_is c.cell-cell.ensures
