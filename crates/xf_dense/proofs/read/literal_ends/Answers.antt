use Rattle.std.proofs.Common.{arith}
use Rattle.xf_dense.proofs.Within.{one_more}
use Rattle.xf_dense.proofs.read.literal_ends.Goals as goal

pub returns-in_ok-push-in-Some-clause-within : goal.returns-in_ok-push-in-Some-clause-within
returns-in_ok-push-in-Some-clause-within c =
    (one_more c.args.at c.in-Some.count c.args.state.now.counts c.push-in-Some.new.self c.pop.new.self c.requires.within.0 c.in-Some.ensures c.in_ok-push-in-Some.ensures, omega arith)
