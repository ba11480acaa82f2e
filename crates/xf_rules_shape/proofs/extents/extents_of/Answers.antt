use Rattle.std.proofs.Common.{arith}
use Rattle.xf_rules_shape.proofs.ExtentLemmas.{no_operands_left, all_there}
use Rattle.xf_rules_shape.proofs.extents.extents_of.Goals as goal

pub returns : goal.returns
returns c = all_there c.loop-at.pairs.items _ _ (no_operands_left c.args.maps.now c.args.types.now c.loop-at.at
    (omega (arith, c.min-at-end.ensures))) c.loop-at.invariant
