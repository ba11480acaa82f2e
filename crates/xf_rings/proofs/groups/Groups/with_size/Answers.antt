use Rattle.std.proofs.Common.{◌+◌, arith, refl}
use Rattle.xf_rings.proofs.GrowLemmas.{length_upto, upto_next}
use Rattle.xf_rings.proofs.groups.Groups.with_size.Goals as goal

pub grow-requires : goal.grow-requires
grow-requires c = rw c.loop-at.invariant (omega (arith, length_upto c.loop-at._at))

pub loop-at-preserved : goal.loop-at-preserved
loop-at-preserved c = upto_next c.loop-at._at (c.loop-at._at + 1) _ _ refl c.loop-at.invariant
    c.in_ok-grow.ensures.ok
