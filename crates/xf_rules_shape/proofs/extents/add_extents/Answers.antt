use Rattle.std.proofs.Common.{arith}
use Rattle.xf_rules_shape.proofs.ExtentLemmas.{no_pairs_left, all_there}
use Rattle.xf_rules_shape.proofs.extents.add_extents.Goals as goal

pub returns : goal.returns
returns c = all_there c.loop-at.pairs.items _ _ (no_pairs_left c.args.dims.now c.args.extents.now c.loop-at.at
    (omega (arith, c.min-at-end.ensures))) c.loop-at.invariant
