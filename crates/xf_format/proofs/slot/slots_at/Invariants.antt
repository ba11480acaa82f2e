use Rattle.std.proofs.Common.{◌≡◌, ◌≤◌, length, drop}
use Rattle.xf_format.specs.Rules.{by, slots_rule}
use Rattle.xf_format.proofs.slot.slots_at.Given as goal

-- what is left of the row reads what the row reads
abbrev pub invariant-loop-slot : goal.invariant-loop-slot
invariant-loop-slot l = (by (slots_rule (drop l.slot-index l.slots)) l.tokens l.parts l.at ≡ by (slots_rule l.slots)
    l.tokens l.fn.parts l.initial.at) × (l.initial.at ≤ l.at) × (l.at ≤ length l.tokens)
