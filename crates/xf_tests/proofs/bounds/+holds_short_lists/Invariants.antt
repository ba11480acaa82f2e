use Rattle.std.proofs.Common.{◌≡◌, ◌+◌, drop}
use Rattle.std.specs.Prelude.{◌&&◌}
use Rattle.xf_ir.specs.View.{ops_of, regions_of}
use Rattle.xf_tests.specs.Short.{are_short, hold_short}
use Rattle.xf_tests.proofs.bounds.+holds_short_lists.Given as goal

-- what is left decides
abbrev pub invariant-loop-inner : goal.invariant-loop-inner
invariant-loop-inner l = (are_short (ops_of (drop l.inner-index l.inner-items))
    && hold_short (regions_of (drop (l.block-index + 1) l.block-items))) ≡ hold_short l.op.regions

abbrev pub invariant-loop-block : goal.invariant-loop-block
invariant-loop-block l = hold_short (regions_of (drop l.block-index l.block-items)) ≡ hold_short l.op.regions
