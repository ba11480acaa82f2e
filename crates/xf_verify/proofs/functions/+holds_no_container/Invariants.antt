use Rattle.std.proofs.Common.{◌≡◌, ◌+◌, drop}
use Rattle.std.specs.Prelude.{◌&&◌}
use Rattle.xf_ir.specs.View.{ops_of, regions_of}
use Rattle.xf_ir.specs.Violations.{ops_inner, regions_inner}
use Rattle.xf_verify.proofs.functions.+holds_no_container.Given as goal

-- what is left decides
abbrev pub invariant-loop-inner : goal.invariant-loop-inner
invariant-loop-inner l = (ops_inner (ops_of (drop l.inner-index l.inner-items))
    && regions_inner (regions_of (drop (l.block-index + 1) l.block-items))) ≡ regions_inner l.op.regions

abbrev pub invariant-loop-block : goal.invariant-loop-block
invariant-loop-block l = regions_inner (regions_of (drop l.block-index l.block-items)) ≡ regions_inner l.op.regions
