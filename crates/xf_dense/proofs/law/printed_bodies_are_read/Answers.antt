use Rattle.xf_dense.proofs.PrintedNests.{printed_even, printed_read}
use Rattle.xf_dense.proofs.law.printed_bodies_are_read.Goals as goal

pub returns-clause-even : goal.returns-clause-even
returns-clause-even c = printed_even

pub returns-clause-read : goal.returns-clause-read
returns-clause-read c = printed_read
