use Rattle.xf_roundtrip.proofs.Laws.{texts_mean}
use Rattle.xf_roundtrip.proofs.law.texts_mean_what_they_say.Goals as goal

pub returns : goal.returns
returns c = texts_mean
