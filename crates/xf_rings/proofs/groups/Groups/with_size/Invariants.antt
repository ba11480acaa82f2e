use Rattle.std.proofs.Common.{◌≡◌}
use Rattle.xf_rings.specs.Groups.{upto}
use Rattle.xf_rings.proofs.groups.Groups.with_size.Given as goal

abbrev pub invariant-loop-at : goal.invariant-loop-at
invariant-loop-at l = l.groups ≡ upto l._at
