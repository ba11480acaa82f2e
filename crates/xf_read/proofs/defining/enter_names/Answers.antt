use Rattle.xf_read.proofs.Scoping.{grows_on}
use Rattle.xf_read.proofs.defining.enter_names.Goals as goal

pub returns-clause-grows : goal.returns-clause-grows
returns-clause-grows c = grows_on c.args.scope.now c.enter_symbol.new.scope c.enter_results.new.scope
    c.in_ok-enter_symbol.ensures.grows c.in_ok-enter_results.ensures.grows
