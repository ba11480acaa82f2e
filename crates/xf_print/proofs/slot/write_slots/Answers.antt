use Rattle.std.proofs.lemmas.List.{drop_more}
use Rattle.xf_print_base.specs.Index.{names_of}
use Rattle.xf_print.proofs.SlotTexts.{slots_go}
use Rattle.xf_print.proofs.slot.write_slots.Goals as goal

pub loop-slot-preserved : goal.loop-slot-preserved
loop-slot-preserved c =
    slots_go (names_of c.args.names.now) c.args.first c.args.op.now c.args.slots.now c.loop-slot.slot-index _ _ _ _
    (drop_more _ _ _ c.loop-slot-test.true) c.loop-slot.invariant c.in_ok-write_slot.ensures
