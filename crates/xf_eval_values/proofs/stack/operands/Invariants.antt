use Rattle.std.proofs.Common.{◌≡◌, take, drop}
use Rattle.std.specs.Prelude.{map}
use Rattle.xf_eval_values.specs.Stack.{env_of}
use Rattle.xf_eval_values.proofs.stack.operands.Given as goal

abbrev pub invariant-loop-name : goal.invariant-loop-name
invariant-loop-name l = l.values ≡ map (env_of (drop l.base l.stack)) (take l.name-index l.names)
