use Rattle.std.proofs.Common.{◌≡◌, drop}
use Rattle.xf_rules_shape.specs.Dims.{with_dims}
use Rattle.xf_rules_shape.proofs.maps.add_dims.Given as goal

-- what is there with what is left is the whole
abbrev pub invariant-loop-number : goal.invariant-loop-number
invariant-loop-number l = with_dims l.dims (drop l.number-index l.numbers) ≡ with_dims l.fn.dims l.numbers
