use Rattle.std.proofs.Common.{◌≡◌, ◌≤◌, ◌-◌, length}
use Rattle.xf_args.specs.Arguments.{arguments_from, behind_all}
use Rattle.xf_args.proofs.list.arguments_at.Given as goal

abbrev pub invariant-loop-turn : goal.invariant-loop-turn
invariant-loop-turn l =
    (l.at ≤ length l.tokens)
    × (behind_all l.values (arguments_from (length l.tokens - l.turn) l.tokens l.at)
    ≡ arguments_from (length l.tokens) l.tokens 0)
