use Rattle.std.proofs.Common.{◌≡◌, take}
use Rattle.xf_sem.proofs.value.has_equal_elems.Given as goal

-- the elements so far are equal
abbrev pub invariant-loop-at : goal.invariant-loop-at
invariant-loop-at l = take l.at l.left ≡ take l.at l.right
