use Rattle.std.proofs.Common.{◌≡◌, ℕ}
use Rattle.std.specs.Prelude.{Some}
use Rattle.xf_rings.specs.Groups.{In}
use Rattle.xf_uses.specs.Cells.{cell_at}
use Rattle.xf_uses.proofs.use_lists.UseLists.find.Given as goal

abbrev pub invariant-loop-cell : goal.invariant-loop-cell
invariant-loop-cell l = (c : ℕ) → cell_at l.self-inside.cells.items c ≡ Some l.name → In c l.cell-iterator
