use Rattle.xf_format.proofs.HeadLaws.{heads_are_short, heads_are_within}
use Rattle.xf_format.proofs.law.heads_are_bounded.Goals as goal

pub returns-clause-short : goal.returns-clause-short
returns-clause-short c = heads_are_short

pub returns-clause-within : goal.returns-clause-within
returns-clause-within c = heads_are_within
