use Rattle.std.proofs.Common.{◌≡◌, ◌+◌, ◌*◌, ◌-◌, ◌≤◌, length, true, false}
use Rattle.std.specs.Vec.Iter.{into_iter_items}
use Rattle.xf_ir.specs.declared.name.OpName.{OpName}
use Rattle.xf_ir.specs.Bounds.{OpsShort}
use Rattle.xf_ir.specs.Count.{tree_count, ops_count}
use Rattle.xf_ir.specs.Spots.{ops_length}
use Rattle.xf_ir.specs.Tree.{cons, no_ops}
use Rattle.xf_ir.specs.View.{ops_of, regions_of, tree_size, ops_size, regions_size}
use Rattle.xf_arena_tree.specs.Names.{ops_has, OpsDistinct}
use Rattle.xf_arena_tree.specs.Without.{OpsWhere}
use Rattle.xf_arena_tree.specs.Puts.{StandsAt}
use Rattle.xf_arena_tree.specs.Fills.{puts_in, hollow}
use Rattle.xf_arena_bed.specs.declared.node.OpId.{OpId}
use Rattle.xf_arena_bed.specs.Live.{name_of, names_of, IsLive, AreLive}
use Rattle.xf_arena_bed.proofs.bed.Bed.+restore.Given as goal

abbrev pub decreases-put_tree : goal.decreases-put_tree
decreases-put_tree l = 2 * tree_size l.tree + 1

abbrev pub decreases-put_from : goal.decreases-put_from
decreases-put_from l = 2 * (regions_size (hollow l.region (regions_of l.regions.items)) - l.region)

abbrev pub decreases-put_ops : goal.decreases-put_ops
decreases-put_ops l = 2 * ops_size (ops_of l.ops.items)

abbrev pub invariant-put_ops-loop-op : goal.invariant-put_ops-loop-op
invariant-put_ops-loop-op l = record {
  told : puts_in (name_of l.parent) l.region l.at (ops_of (into_iter_items l.op-iterator)) l.self.root
      ≡ puts_in (name_of l.parent) l.region 0 (ops_of l.fn.ops.items) l.initial.self.root;
  live : IsLive l.self l.parent;
  sibling_live : AreLive l.self l.sibling;
  place : OpsWhere (name_of l.parent) (StandsAt l.region l.at (names_of l.sibling)) (cons l.self.root no_ops);
  other : ops_has (name_of l.parent) (ops_of (into_iter_items l.op-iterator)) ≡ false;
  fresh : (x : OpName) → ops_has x (ops_of (into_iter_items l.op-iterator)) ≡ true
      → ops_has x (cons l.self.root no_ops) ≡ false;
  distinct : OpsDistinct (ops_of (into_iter_items l.op-iterator));
  names : OpsDistinct (cons l.self.root no_ops);
  room : tree_count l.self.root + ops_count (ops_of (into_iter_items l.op-iterator)) ≤ length l.self.seats;
  count : tree_count l.self.root + ops_count (ops_of (into_iter_items l.op-iterator))
      ≤ tree_count l.initial.self.root + ops_count (ops_of l.fn.ops.items);
  short : OpsShort (ops_of (into_iter_items l.op-iterator));
  places : l.at + ops_length (ops_of (into_iter_items l.op-iterator)) ≡ ops_length (ops_of l.fn.ops.items);
  slots : length l.self.seats ≡ length l.initial.self.seats;
  seats : (id : OpId) → IsLive l.initial.self id → IsLive l.self id;
  small : ops_size (ops_of (into_iter_items l.op-iterator)) ≤ ops_size (ops_of l.fn.ops.items);
}
