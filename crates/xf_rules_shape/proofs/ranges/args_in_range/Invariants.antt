use Rattle.std.proofs.Common.{◌≡◌, drop}
use Rattle.xf_ir.specs.Lists.{every}
use Rattle.xf_ir.specs.RuleAttributes.{type_fits}
use Rattle.xf_ir.specs.RuleBlocks.{block_args}
use Rattle.xf_ir.specs.View.{regions_of}
use Rattle.xf_rules_shape.proofs.ranges.args_in_range.Given as goal

abbrev pub invariant-loop-block : goal.invariant-loop-block
invariant-loop-block l = every (every type_fits) (block_args (regions_of (drop l.block-index l.regions)))
    ≡ every (every type_fits) (block_args (regions_of l.regions))
