use Rattle.xf_ir_laws.proofs.ErasedBounds.{short_kept, limits_kept}
use Rattle.xf_ir_laws.proofs.laws.erasing_keeps_bounds.Goals as goal

pub returns-clause-lists : goal.returns-clause-lists
returns-clause-lists c = short_kept

pub returns-clause-limits : goal.returns-clause-limits
returns-clause-limits c = limits_kept
