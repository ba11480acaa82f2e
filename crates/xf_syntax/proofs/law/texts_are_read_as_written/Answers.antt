use Rattle.xf_syntax.proofs.Texts.{texts_are_written, texts_read_again}
use Rattle.xf_syntax.proofs.law.texts_are_read_as_written.Goals as goal

pub returns-clause-written : goal.returns-clause-written
returns-clause-written c = texts_are_written

pub returns-clause-again : goal.returns-clause-again
returns-clause-again c = texts_read_again
