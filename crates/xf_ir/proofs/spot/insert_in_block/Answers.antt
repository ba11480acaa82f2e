use Rattle.std.proofs.Common.{arith}
use Rattle.xf_ir.proofs.PutLists.{ops_of-insert, ops_insert-past}
use Rattle.xf_ir.proofs.spot.insert_in_block.Goals as goal

pub returns-in_ok-insert : goal.returns-in_ok-insert
returns-in_ok-insert c = rw c.in_ok-insert.ensures.items
    (ops_of-insert c.args.ops.now.items c.args.at c.args.tree (omega (arith, c.if-at-len.true, c.len.ensures)))

pub returns-else-at-len : goal.returns-else-at-len
returns-else-at-len c =
    ops_insert-past c.args.ops.now.items c.args.at c.args.tree (omega (arith, c.if-at-len.false, c.len.ensures))
