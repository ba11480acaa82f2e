use Rattle.std.proofs.Common.{◌≡◌, drop}
use Rattle.xf_ir.specs.RuleBlocks.{blocks_end}
use Rattle.xf_ir.specs.View.{regions_of}
use Rattle.xf_rules.proofs.blocks.blocks_end.Given as goal

abbrev pub invariant-loop-block : goal.invariant-loop-block
invariant-loop-block l =
    blocks_end l.holder (regions_of (drop l.block-index l.regions)) ≡ blocks_end l.holder (regions_of l.regions)
