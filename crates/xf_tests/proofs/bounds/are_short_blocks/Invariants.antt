use Rattle.std.proofs.Common.{◌≡◌, drop}
use Rattle.xf_ir.specs.View.{regions_of}
use Rattle.xf_tests.specs.Short.{are_short_blocks}
use Rattle.xf_tests.proofs.bounds.are_short_blocks.Given as goal

-- what is left passes where the whole does
abbrev pub invariant-loop-block : goal.invariant-loop-block
invariant-loop-block l =
    are_short_blocks (regions_of (drop l.block-index l.blocks)) ≡ are_short_blocks (regions_of l.blocks)
