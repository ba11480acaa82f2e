use Rattle.std.proofs.Common.{◌≡◌, ◌-◌}
use Rattle.xf_ir.specs.Lists.{every}
use Rattle.xf_ir.specs.RuleLinalg.{counted}
use Rattle.std.specs.FinSet as set
use Rattle.xf_rules_shape.proofs.maps.has_all.Given as goal

abbrev pub invariant-loop-number : goal.invariant-loop-number
invariant-loop-number l = every (set.contains l.dims) (counted l.number (l.count - l.number))
    ≡ every (set.contains l.dims) (counted 0 l.count)
