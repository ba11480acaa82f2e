use Rattle.std.proofs.Common.{◌≡◌, take}
use Rattle.xf_type.proofs.duplicate.ListOfDuplicate.duplicate.Given as goal

-- the copies are the items so far
abbrev pub invariant-loop-item : goal.invariant-loop-item
invariant-loop-item g l = l.copies.items ≡ take l.item-index l.items
