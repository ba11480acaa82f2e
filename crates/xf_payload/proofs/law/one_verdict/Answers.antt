use Rattle.xf_payload.proofs.OneVerdict.{holds_one, has_one_fault, holds_or_not}
use Rattle.xf_payload.proofs.law.one_verdict.Goals as goal

pub returns-clause-holds : goal.returns-clause-holds
returns-clause-holds c = holds_one

pub returns-clause-fault : goal.returns-clause-fault
returns-clause-fault c = has_one_fault

pub returns-clause-apart : goal.returns-clause-apart
returns-clause-apart c = holds_or_not
