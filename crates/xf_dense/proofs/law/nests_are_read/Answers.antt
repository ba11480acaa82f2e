use Rattle.xf_dense.proofs.Lawful.{nest_in_text}
use Rattle.xf_dense.proofs.Reaching.{nest_is_read}
use Rattle.xf_dense.proofs.law.nests_are_read.Goals as goal

pub returns-clause-tokens : goal.returns-clause-tokens
returns-clause-tokens c = nest_is_read

pub returns-clause-texts : goal.returns-clause-texts
returns-clause-texts c = nest_in_text
