use Rattle.xf_ir_laws.proofs.Replays.{lead_back}
use Rattle.xf_ir_laws.proofs.laws.inverses_lead_back.Goals as goal

pub returns-clause-fit : goal.returns-clause-fit
returns-clause-fit c = λ m es v u h. let back = lead_back m es v u h in back.fit

pub returns-clause-root : goal.returns-clause-root
returns-clause-root c = λ m es v u h. let back = lead_back m es v u h in back.root
