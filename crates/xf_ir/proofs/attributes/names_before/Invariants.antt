use Rattle.std.proofs.Common.{◌≡◌, ◌+◌, drop}
use Rattle.xf_ir.specs.Attributes.{names_before}
use Rattle.xf_ir.proofs.attributes.names_before.Given as goal

-- those so far and those of the rest are all
abbrev pub invariant-loop-at : goal.invariant-loop-at
invariant-loop-at l = names_before l.key (drop l.at l.attrs) + l.at ≡ names_before l.key l.attrs
