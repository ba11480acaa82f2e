use Rattle.std.proofs.Common.{◌≡◌, ℕ, ◌≤◌, true, false, eqb, length}
use Rattle.std.specs.Prelude.{Some, IfSome, IfNone}
use Rattle.xf_ir.specs.declared.name.OpName.{OpName}
use Rattle.xf_ir.specs.Edits.{tree_erased}
use Rattle.xf_ir.specs.Tree.{cons, no_ops}
use Rattle.xf_arena_tree.specs.Names.{ops_has}
use Rattle.xf_arena_tree.specs.Without.{tree_without, OpsLeaf}
use Rattle.xf_arena_tree.specs.Inner.{tree_below, IsInner}
use Rattle.xf_arena_bed.specs.Value.{seat_at}
use Rattle.xf_arena_bed.specs.Live.{name_of, IsLive}
use Rattle.xf_arena_bed.proofs.bed.Bed.+erase.Given as goal

abbrev pub decreases-erase : goal.decreases-erase
decreases-erase l = tree_below (name_of l.id) l.self.now.root

abbrev pub invariant-loop-last : goal.invariant-loop-last
invariant-loop-last l = record {
  live : IsLive l.self l.id;
  low : eqb l.self.root.name.0 l.id.serial ≡ false;
  root : tree_without (name_of l.id) l.self.root ≡ tree_without (name_of l.id) l.initial.self.root;
  slots : length l.self.seats ≡ length l.initial.self.seats;
  seats : (s : ℕ) (n : OpName) → seat_at l.initial.self.seats s ≡ Some n
      → ops_has n (cons l.self.root no_ops) ≡ true → seat_at l.self.seats s ≡ Some n;
  below : tree_below (name_of l.id) l.self.root ≤ tree_below (name_of l.id) l.initial.self.root;
  leaf : IfNone l.last (OpsLeaf (name_of l.id) (cons l.self.root no_ops));
  kid_live : IfSome l.last (λ k. IsLive l.self k);
  inner : IfSome l.last (λ k. IsInner (name_of k) (name_of l.id) l.self.root);
  exact : (o : OpName) → tree_without o l.self.root ≡ tree_erased o l.self.root;
}

abbrev pub decreases-loop-last : goal.decreases-loop-last
decreases-loop-last l = tree_below (name_of l.id) l.self.root
