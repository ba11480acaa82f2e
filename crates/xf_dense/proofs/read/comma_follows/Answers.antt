use Rattle.xf_dense.proofs.Within.{kept, rank_next}
use Rattle.xf_dense.proofs.read.comma_follows.Goals as goal

pub returns-in_ok-push-in-Some-clause-within : goal.returns-in_ok-push-in-Some-clause-within
returns-in_ok-push-in-Some-clause-within c = (
  kept c.args.at c.in-Some.count c.args.state.now.counts c.push.new.self c.pop.new.self c.requires.within.0 c.in-Some.ensures c.in_ok-push-in-Some.ensures,
  rank_next c.args.at c.args.state.now.rank c.requires.within.1,
)
