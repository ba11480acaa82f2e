use Rattle.std.proofs.Common.{drop}
use Rattle.xf_read.proofs.Arguments.{ArgsLeft}
use Rattle.xf_read.proofs.defining.enter_args.Given as goal

abbrev pub invariant-loop-at : goal.invariant-loop-at
invariant-loop-at l =
    ArgsLeft l.tokens l.number l.types l.args l.fn.scope l.scope l.twice l.at (drop l.at l.args)
