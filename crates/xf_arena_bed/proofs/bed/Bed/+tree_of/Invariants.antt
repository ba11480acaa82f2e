use Rattle.std.proofs.Common.{◌≡◌}
use Rattle.std.specs.Prelude.{Some}
use Rattle.xf_ir.specs.Lists.{Each}
use Rattle.xf_ir.specs.Tree.{Tree}
use Rattle.xf_ir.specs.View.{regions_of}
use Rattle.xf_ir.specs.Walk.{tree_find}
use Rattle.xf_arena_tree.specs.Rebuilds.{found_size}
use Rattle.xf_arena_bed.specs.Live.{name_of, IsLive}
use Rattle.xf_arena_bed.proofs.TreeLemmas.{Left}
use Rattle.xf_arena_bed.proofs.bed.Bed.+tree_of.Given as goal

abbrev pub decreases-tree_of : goal.decreases-tree_of
decreases-tree_of l = found_size (tree_find (name_of l.id) l.self.now.root)

abbrev pub invariant-loop-kid : goal.invariant-loop-kid
invariant-loop-kid l = record {
  left : (t : Tree) → tree_find (name_of l.id) l.self.root ≡ Some t
      → Left l.self.root t l.kid-iterator (regions_of l.regions.items);
  all_live : Each (λ k. IsLive l.self k.id) l.kid-iterator;
}
