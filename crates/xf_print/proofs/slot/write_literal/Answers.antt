use Rattle.std.proofs.Common.{append-nil, sym}
use Rattle.xf_print.proofs.SlotTexts.{no_literal}
use Rattle.xf_print.proofs.slot.write_literal.Goals as goal

pub returns-in_default : goal.returns-in_default
returns-in_default c =
    rw (no_literal c.args.kind.now c.in_default.not-Constant c.in_default.not-Dense) (sym (append-nil _))
