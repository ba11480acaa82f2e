use Rattle.std.proofs.Common.{◌≡◌, take}
use Rattle.xf_type.proofs.equals.ListOfEquals.equals.Given as goal

-- the items so far are the same
abbrev pub invariant-loop-at : goal.invariant-loop-at
invariant-loop-at g l = take l.at l.left ≡ take l.at l.right
