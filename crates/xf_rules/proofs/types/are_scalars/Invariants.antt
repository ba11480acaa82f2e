use Rattle.std.proofs.Common.{◌≡◌, drop}
use Rattle.xf_type.specs.Equal.{same_types}
use Rattle.xf_rules.specs.OperandTypes.{scalars}
use Rattle.xf_rules.proofs.types.are_scalars.Given as goal

abbrev pub invariant-loop-at : goal.invariant-loop-at
invariant-loop-at l =
    same_types (drop l.at l.types) (scalars (drop l.at l.widths)) ≡ same_types l.types (scalars l.widths)
