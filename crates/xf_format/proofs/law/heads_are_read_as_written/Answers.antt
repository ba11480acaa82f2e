use Rattle.xf_format.proofs.HeadLaws.{heads_are_written, heads_read_again, heads_have_rows}
use Rattle.xf_format.proofs.law.heads_are_read_as_written.Goals as goal

pub returns-clause-written : goal.returns-clause-written
returns-clause-written c = heads_are_written

pub returns-clause-again : goal.returns-clause-again
returns-clause-again c = heads_read_again

pub returns-clause-rows : goal.returns-clause-rows
returns-clause-rows c = heads_have_rows
