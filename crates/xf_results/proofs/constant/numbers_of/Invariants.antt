use Rattle.std.proofs.Common.{◌≡◌, drop, ◌++◌}
use Rattle.std.specs.Prelude.{map}
use Rattle.xf_results.specs.Results.{number_or_zero}
use Rattle.xf_results.proofs.constant.numbers_of.Given as goal

abbrev pub invariant-loop-elem : goal.invariant-loop-elem
invariant-loop-elem l = l.numbers.items ++ map number_or_zero (drop l.elem-index l.elems) ≡ map number_or_zero l.elems
