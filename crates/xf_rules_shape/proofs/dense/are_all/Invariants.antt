use Rattle.std.proofs.Common.{◌≡◌, drop}
use Rattle.xf_ir.specs.Lists.{every}
use Rattle.std.specs.Prelude.{◌==◌}
use Rattle.xf_rules_shape.proofs.dense.are_all.Given as goal

-- what is left passes where the whole does
abbrev pub invariant-loop-number : goal.invariant-loop-number
invariant-loop-number l =
    every (λ n. n == l.wanted) (drop l.number-index l.numbers) ≡ every (λ n. n == l.wanted) l.numbers
