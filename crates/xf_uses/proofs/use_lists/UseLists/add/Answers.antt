use Rattle.xf_uses.proofs.MoveLemmas.{add_view, takes_view, loose_view}
use Rattle.xf_uses.proofs.use_lists.UseLists.add.Goals as goal

pub invariant_of-self : goal.invariant_of-self
invariant_of-self c = (add_view _ _ _ _ _ _ _ _ _ _ _ c.self.invariant c.self.view_is c.loose_cell-cell.ensures
    c.requires.fresh c.cell-head.ensures (rw c.leave.ensures at c.join.ensures)
    (rw c.cell_number.ensures at c.put.ensures)).kept_cells

pub returns-clause-operands : goal.returns-clause-operands
returns-clause-operands c = (add_view _ _ _ _ _ _ _ _ _ _ _ c.self.invariant c.self.view_is
    c.loose_cell-cell.ensures c.requires.fresh c.cell-head.ensures (rw c.leave.ensures at c.join.ensures)
    (rw c.cell_number.ensures at c.put.ensures)).changes

pub returns-clause-room : goal.returns-clause-room
returns-clause-room c = takes_view _ _ _ _ _ _ _ c.self.invariant c.self.view_is c.loose_cell-cell.ensures
    c.requires.room

pub loose_cell-cell-requires-clause-some : goal.loose_cell-cell-requires-clause-some
loose_cell-cell-requires-clause-some c = loose_view _ _ _ _ c.self.invariant c.self.view_is c.requires.room
