use Rattle.std.proofs.Common.{◌≡◌, drop}
use Rattle.xf_read_base.specs.Spelt.{behind_brace}
use Rattle.xf_read_base.proofs.spelt.behind_brace.Given as goal

abbrev pub invariant-loop-at : goal.invariant-loop-at
invariant-loop-at l = behind_brace (drop l.at l.tokens) l.at ≡ behind_brace (drop l.from l.tokens) l.from
