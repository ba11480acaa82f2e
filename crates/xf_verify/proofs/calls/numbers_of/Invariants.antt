use Rattle.std.proofs.Common.{◌≡◌, List, ℕ, drop}
use Rattle.xf_ir.specs.Walk.{first_of}
use Rattle.xf_verify.specs.Chains.{numbers_in, number_from}
use Rattle.xf_verify.proofs.calls.numbers_of.Given as goal

-- a symbol has its number, or one of what is left
abbrev pub invariant-loop-number : goal.invariant-loop-number
invariant-loop-number l = (s : List ℕ)
    → first_of (numbers_in l.numbers s) (number_from l.number (drop l.number l.functions) s)
    ≡ number_from 0 l.functions s
