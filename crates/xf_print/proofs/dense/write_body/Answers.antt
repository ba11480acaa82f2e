use Rattle.std.proofs.Common.{append-nil, arith, sym}
use Rattle.xf_print.proofs.Bodies.{no_number, one_number, numbers}
use Rattle.xf_print.proofs.dense.write_body.Goals as goal

pub returns-in-empty : goal.returns-in-empty
returns-in-empty c = rw (no_number c.args.shape.now c.args.numbers.now (omega arith)) (sym (append-nil _))

pub returns-in-len1 : goal.returns-in-len1
returns-in-len1 c =
    rw (one_number c.args.shape.now c.args.numbers.now 0 (omega arith)) c.write_number_of.ensures

pub returns-in_default : goal.returns-in_default
returns-in_default c =
    rw (numbers c.args.shape.now c.args.numbers.now (omega arith), ← c.as_slice.ensures) c.write_nested.ensures
