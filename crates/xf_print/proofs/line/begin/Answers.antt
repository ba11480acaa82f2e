use Rattle.xf_print.proofs.BlankLemmas.{next_level}
use Rattle.xf_print.proofs.line.begin.Goals as goal

pub loop-preserved : goal.loop-preserved
loop-preserved c = next_level c.loop.counter _ _ c.loop.invariant c.in_ok-extend_from_slice.ensures.items
