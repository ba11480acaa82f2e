use Rattle.std.proofs.Common.{◌≡◌, drop}
use Rattle.xf_type.specs.Equal.{same_types}
use Rattle.xf_type.proofs.equals.same_types.Given as goal

-- what is left is equal where the whole is
abbrev pub invariant-loop-at : goal.invariant-loop-at
invariant-loop-at l = same_types (drop l.at l.types) (drop l.at l.wanted) ≡ same_types l.types l.wanted
