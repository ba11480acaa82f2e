use Rattle.std.proofs.Common.{◌≡◌, take}
use Rattle.std.specs.Prelude.{map}
use Rattle.xf_verify.specs.Chains.{numbers_in, tree_calls}
use Rattle.xf_verify.proofs.calls.calls_of.Given as goal

abbrev pub invariant-loop-function : goal.invariant-loop-function
invariant-loop-function l = l.calls.items ≡ map (tree_calls (numbers_in l.numbers)) (take l.function-index l.functions)
