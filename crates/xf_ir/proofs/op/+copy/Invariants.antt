use Rattle.std.proofs.Common.{◌≡◌, take}
use Rattle.xf_ir.proofs.op.+copy.Given as goal

-- the copies are the operations so far
abbrev pub invariant-Block::copy-loop-op : goal.invariant-Block::copy-loop-op
invariant-Block::copy-loop-op l = l.ops.items ≡ take l.op-index l.op-items

-- the copies are the blocks so far
abbrev pub invariant-Op::copy-loop-block : goal.invariant-Op::copy-loop-block
invariant-Op::copy-loop-block l = l.regions.items ≡ take l.block-index l.block-items
