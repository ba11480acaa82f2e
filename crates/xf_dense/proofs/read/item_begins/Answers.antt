use Rattle.xf_dense.proofs.Within.{at_most_next, rank_next}
use Rattle.xf_dense.proofs.read.item_begins.Goals as goal

pub returns-in-None-2-clause-within : goal.returns-in-None-2-clause-within
returns-in-None-2-clause-within c =
    (at_most_next c.args.at c.args.state.now.counts c.requires.within.0, rank_next c.args.at c.args.state.now.rank c.requires.within.1)
