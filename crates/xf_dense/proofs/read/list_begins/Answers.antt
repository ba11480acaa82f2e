use Rattle.xf_dense.proofs.Within.{opened, rank_inner}
use Rattle.xf_dense.proofs.read.list_begins.Goals as goal

pub returns-clause-within : goal.returns-clause-within
returns-clause-within c = (
  opened c.args.at c.args.state.now.counts c.push.new.self c.requires.within.0 c.in_ok-push.ensures,
  rank_inner c.args.at c.args.state.now.rank c.inner-state.result c.requires.within.1 c.inner-state.ensures,
)
