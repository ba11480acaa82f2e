use Rattle.std.proofs.Common.{◌≡◌, ◌+◌, ◌≤◌, length}
use Rattle.xf_ir.specs.Count.{tree_count}
use Rattle.xf_arena_bed.specs.declared.node.OpId.{OpId}
use Rattle.xf_arena_bed.specs.Live.{IsLive}
use Rattle.xf_arena_bed.proofs.bed.Bed.reserve.Given as goal

abbrev pub invariant-loop-slot : goal.invariant-loop-slot
invariant-loop-slot l = record {
  root : l.self.root ≡ l.initial.self.root;
  slots : length l.self.seats ≡ tree_count l.initial.self.root + l._slot;
  more : length l.initial.self.seats ≤ length l.self.seats;
  seats : (id : OpId) → IsLive l.initial.self id → IsLive l.self id;
}
