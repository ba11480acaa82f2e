use Rattle.std.proofs.Common.{◌≡◌, ◌+◌, ◌*◌, true, drop, take}
use Rattle.std.specs.FinSet as set
use Rattle.xf_ir.specs.View.{ops_of, regions_of, tree_size, ops_size}
use Rattle.xf_verify.specs.Judged.{IsNamed, first_behind, names_behind, ops_stand, regions_stand, holder_seen}
use Rattle.xf_verify.specs.Visible.{definitions_in, types_in, without}
use Rattle.xf_verify.proofs.walk.+walk.Given as goal

abbrev pub decreases-operation : goal.decreases-operation
decreases-operation l = 2 * tree_size l.op.now + 1

abbrev pub decreases-operations : goal.decreases-operations
decreases-operations l = 2 * ops_size (ops_of l.ops.now)

abbrev pub decreases-regions : goal.decreases-regions
decreases-regions l = 2 * tree_size l.op.now

-- what is left from here gives what all gives
abbrev pub invariant-operations-loop-number : goal.invariant-operations-loop-number
invariant-operations-loop-number l = record {
  judged : first_behind l.facts l.walk.names (ops_stand (holder_seen l.holder)
      (types_in l.walk.scope) (ops_of (drop l.number l.ops))) ≡ first_behind l.facts l.fn.walk.names
      (ops_stand (holder_seen l.holder) (types_in l.fn.walk.scope) (ops_of l.ops));
  names : names_behind l.walk.names
      (ops_stand (holder_seen l.holder) (types_in l.walk.scope) (ops_of (drop l.number l.ops)))
      ≡ names_behind l.fn.walk.names (ops_stand (holder_seen l.holder) (types_in l.fn.walk.scope) (ops_of l.ops));
  scope : without (take l.number l.ops) (definitions_in l.walk.scope) ≡ definitions_in l.fn.walk.scope;
  named : IsNamed l.walk;
}

abbrev pub invariant-regions-loop-number : goal.invariant-regions-loop-number
invariant-regions-loop-number l = record {
  judged : first_behind l.facts l.walk.names (regions_stand (holder_seen l.holder) (types_in l.walk.scope)
      l.op.name l.number (regions_of (drop l.number l.block-items))) ≡ first_behind l.facts l.fn.walk.names
      (regions_stand (holder_seen l.holder) (types_in l.fn.walk.scope) l.op.name 0 l.op.regions);
  names : names_behind l.walk.names (regions_stand (holder_seen l.holder) (types_in l.walk.scope) l.op.name l.number
      (regions_of (drop l.number l.block-items))) ≡ names_behind l.fn.walk.names
      (regions_stand (holder_seen l.holder) (types_in l.fn.walk.scope) l.op.name 0 l.op.regions);
  scope : definitions_in l.walk.scope ≡ definitions_in l.fn.walk.scope;
  named : IsNamed l.walk;
  here : set.contains l.walk.names l.op.name.0 ≡ true;
}
