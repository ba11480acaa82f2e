use Rattle.std.proofs.Common.{◌≡◌, drop}
use Rattle.xf_ir.specs.RuleLinalg.{numbers_once}
use Rattle.xf_rules_shape.specs.Dims.{are_new}
use Rattle.xf_rules_shape.proofs.maps.numbers_once.Given as goal

-- what is left is new to those so far where no number stands twice
abbrev pub invariant-loop-number : goal.invariant-loop-number
invariant-loop-number l = are_new l.seen (drop l.number-index l.numbers) ≡ numbers_once l.numbers
