use Rattle.xf_read.proofs.Meanings.{spells_one, misspells_one, spells_or_not}
use Rattle.xf_read.proofs.law.one_meaning.Goals as goal

pub returns-clause-spells : goal.returns-clause-spells
returns-clause-spells c = spells_one

pub returns-clause-fault : goal.returns-clause-fault
returns-clause-fault c = misspells_one

pub returns-clause-apart : goal.returns-clause-apart
returns-clause-apart c = spells_or_not
