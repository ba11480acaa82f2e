use Rattle.std.proofs.Common.{◌≡◌, ◌++◌, drop}
use Rattle.xf_format.specs.Rules.{slots_rule}
use Rattle.xf_print_base.specs.Index.{names_of}
use Rattle.xf_printed.specs.Fills.{rule_text, slots_fill}
use Rattle.xf_print.proofs.slot.write_slots.Given as goal

abbrev pub invariant-loop-slot : goal.invariant-loop-slot
invariant-loop-slot l =
    l.line.items ++ rule_text (slots_rule (drop l.slot-index l.slots))
    (slots_fill (names_of l.names) l.first l.op (drop l.slot-index l.slots))
    ≡ l.fn.line.items ++ rule_text (slots_rule l.slots) (slots_fill (names_of l.names) l.first l.op l.slots)
