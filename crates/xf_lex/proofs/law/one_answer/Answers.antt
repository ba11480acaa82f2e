use Rattle.xf_lex.proofs.Lexing.{one_reading, one_fault, never_both}
use Rattle.xf_lex.proofs.law.one_answer.Goals as goal

pub returns-clause-reading : goal.returns-clause-reading
returns-clause-reading c = one_reading

pub returns-clause-fault : goal.returns-clause-fault
returns-clause-fault c = one_fault

pub returns-clause-apart : goal.returns-clause-apart
returns-clause-apart c = never_both
