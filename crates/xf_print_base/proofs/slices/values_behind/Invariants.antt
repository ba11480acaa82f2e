use Rattle.std.proofs.Common.{◌≡◌, drop}
use Rattle.xf_printed.specs.Structured.{values_behind}
use Rattle.xf_print_base.proofs.slices.values_behind.Given as goal

abbrev pub invariant-loop-place : goal.invariant-loop-place
invariant-loop-place l = values_behind (drop l.place-index l.places) l.left ≡ values_behind l.places l.values
