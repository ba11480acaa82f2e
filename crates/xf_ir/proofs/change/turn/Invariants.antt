use Rattle.std.proofs.Common.{◌≡◌, take}
use Rattle.std.specs.Prelude.{map}
use Rattle.xf_ir.specs.Changes.{turned}
use Rattle.xf_ir.proofs.change.turn.Given as goal

abbrev pub invariant-loop-change : goal.invariant-loop-change
invariant-loop-change l = l.back ≡ map turned (take l.change-index l.changes)
