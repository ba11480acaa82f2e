use Rattle.xf_dense.proofs.Within.{one_more, rank_outer}
use Rattle.xf_dense.proofs.read.behind_list.Goals as goal

pub returns-in_ok-push-in-Some-clause-within : goal.returns-in_ok-push-in-Some-clause-within
returns-in_ok-push-in-Some-clause-within c = (
  one_more c.args.at c.in-Some.count c.args.state.now.counts c.push.new.self c.pop.new.self c.requires.within.0 c.in-Some.ensures c.in_ok-push-in-Some.ensures,
  rank_outer c.args.at c.args.state.now.rank c.outer-state.result c.requires.within.1 c.outer-state.ensures,
)
