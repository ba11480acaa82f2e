use Rattle.xf_ir_laws.proofs.Replays.{replayed_parts}
use Rattle.xf_ir_laws.proofs.laws.replaying_composes.Goals as goal

pub returns : goal.returns
returns c = replayed_parts
