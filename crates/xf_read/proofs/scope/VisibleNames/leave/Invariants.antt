use Rattle.std.proofs.Common.{◌≡◌, ◌≤◌, length, take, drop}
use Rattle.xf_read.specs.Visible.{names_in, before}
use Rattle.xf_read.proofs.scope.VisibleNames.leave.Given as goal

abbrev pub invariant-changes : goal.invariant-changes
invariant-changes l = record {
  longer : l.height ≤ length l.self.changes.items;
  names : before (drop l.height l.self.changes.items) (names_in l.self) ≡ before
      (drop l.height l.fn.self.changes.items) (names_in l.fn.self);
  changes : take l.height l.self.changes.items ≡ take l.height l.fn.self.changes.items;
}

abbrev pub decreases-changes : goal.decreases-changes
decreases-changes l = length l.self.changes.items
