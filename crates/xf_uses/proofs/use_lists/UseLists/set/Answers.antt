use Rattle.xf_uses.proofs.MoveLemmas.{set_view}
use Rattle.xf_uses.proofs.use_lists.UseLists.set.Goals as goal

pub invariant_of-self : goal.invariant_of-self
invariant_of-self c = (set_view _ _ _ _ _ _ _ _ _ _ c.self.invariant c.self.view_is c.cell-cell.ensures
    c.cell-head.ensures (rw c.leave.ensures at c.join.ensures)).kept_cells

pub returns-clause-operands : goal.returns-clause-operands
returns-clause-operands c = (set_view _ _ _ _ _ _ _ _ _ _ c.self.invariant c.self.view_is c.cell-cell.ensures
    c.cell-head.ensures (rw c.leave.ensures at c.join.ensures)).changes
