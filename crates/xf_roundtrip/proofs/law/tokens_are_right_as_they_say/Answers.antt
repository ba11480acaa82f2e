use Rattle.xf_roundtrip.proofs.Laws.{tokens_are_right}
use Rattle.xf_roundtrip.proofs.law.tokens_are_right_as_they_say.Goals as goal

pub returns : goal.returns
returns c = tokens_are_right
