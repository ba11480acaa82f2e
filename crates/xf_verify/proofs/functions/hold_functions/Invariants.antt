use Rattle.std.proofs.Common.{◌≡◌, drop}
use Rattle.xf_ir.specs.View.{regions_of}
use Rattle.xf_ir.specs.Violations.{blocks_alone}
use Rattle.xf_verify.proofs.functions.hold_functions.Given as goal

-- what is left decides
abbrev pub invariant-loop-block : goal.invariant-loop-block
invariant-loop-block l = blocks_alone (regions_of (drop l.block-index l.blocks)) ≡ blocks_alone (regions_of l.blocks)
