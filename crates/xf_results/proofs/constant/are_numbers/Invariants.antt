use Rattle.std.proofs.Common.{◌≡◌, drop}
use Rattle.xf_results.specs.Results.{are_numbers}
use Rattle.xf_results.proofs.constant.are_numbers.Given as goal

abbrev pub invariant-loop-value : goal.invariant-loop-value
invariant-loop-value l = are_numbers (drop l.value-index l.values) ≡ are_numbers l.values
