use Rattle.xf_ir_laws.proofs.SortedAttributes.{sorted_set}
use Rattle.xf_ir_laws.proofs.laws.setting_keeps_sorted.Goals as goal

pub returns : goal.returns
returns c = sorted_set
