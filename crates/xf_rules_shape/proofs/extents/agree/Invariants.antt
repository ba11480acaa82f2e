use Rattle.std.proofs.Common.{◌≡◌, drop}
use Rattle.std.specs.BTreeMap.{get}
use Rattle.std.specs.Ordering.{nat_cmp}
use Rattle.xf_ir.specs.RuleLinalg.{extents_agree}
use Rattle.xf_rules_shape.specs.Extents.{agree_known}
use Rattle.xf_rules_shape.proofs.extents.agree.Given as goal

-- what is left agrees with what is known where all do
abbrev pub invariant-loop-pair : goal.invariant-loop-pair
invariant-loop-pair l = agree_known (get nat_cmp l.known) (drop l.pair-index l.pairs) ≡ extents_agree l.pairs
