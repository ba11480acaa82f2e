use Rattle.xf_format.proofs.HeadLaws.{no_head_goes_on, stops_again, heads_stay}
use Rattle.xf_format.proofs.law.no_head_goes_on.Goals as goal

pub returns-clause-none : goal.returns-clause-none
returns-clause-none c = no_head_goes_on

pub returns-clause-stops : goal.returns-clause-stops
returns-clause-stops c = stops_again

pub returns-clause-stays : goal.returns-clause-stays
returns-clause-stays c = heads_stay
