use Rattle.std.proofs.Common.{drop}
use Rattle.xf_format.specs.Parts.{said}
use Rattle.xf_read.specs.Visible.{names_in}
use Rattle.xf_read.proofs.LookUps.{UsesLeft}
use Rattle.xf_read.proofs.uses.look_up_all.Given as goal

abbrev pub invariant-loop-i : goal.invariant-loop-i
invariant-loop-i l =
    UsesLeft l.tokens (names_in l.scope) (said l.tokens l.parts) l.uses l.used l.i (drop l.i l.uses)
