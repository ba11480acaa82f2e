use Rattle.std.proofs.Common.{◌≡◌, drop}
use Rattle.xf_ir.specs.View.{regions_of}
use Rattle.xf_verify.specs.Judged.{IsNamed, first_behind, blocks_stand, holder_seen}
use Rattle.xf_verify.specs.Visible.{definitions_in, types_in}
use Rattle.xf_verify.proofs.walk.blocks.Given as goal

-- what is left from here gives what all gives
abbrev pub invariant-loop-block : goal.invariant-loop-block
invariant-loop-block l = record {
  judged : first_behind l.facts l.walk.names (blocks_stand (holder_seen l.holder)
      (types_in l.walk.scope) (regions_of (drop l.block-index l.block-items))) ≡ first_behind l.facts l.fn.walk.names
      (blocks_stand (holder_seen l.holder) (types_in l.fn.walk.scope) l.root.regions);
  scope : definitions_in l.walk.scope ≡ definitions_in l.fn.walk.scope;
  named : IsNamed l.walk;
}
