use Rattle.xf_roundtrip.proofs.Spelt.{printed_is_spelt}
use Rattle.xf_roundtrip.proofs.layout.printed_modules_are_spelt.Goals as goal

pub returns : goal.returns
returns c = printed_is_spelt
