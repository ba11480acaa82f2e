-- An operation inside another one.
use Rattle.std.specs.Prelude.{◌≡◌, ℕ, ◌+◌, ◌<◌, ◌==◌, true, false, if◌then◌else◌}
use Rattle.xf_ir.specs.declared.name.OpName.{OpName}
use Rattle.xf_ir.specs.Tree.{Ops, no_ops, op, Regions, no_regions, region, Tree, cons}
use Rattle.xf_ir.specs.Count.{regions_count}
use Rattle.xf_arena_tree.specs.Names.{ops_has}
use Rattle.xf_arena_tree.specs.Without.{tree_without}

-- how many operations one holds
abbrev mutual
  pub ops_below : OpName → Ops → ℕ
  ops_below o no_ops = 0
  ops_below o (op n k ds os ts rs rest) =
      (if n.0 == o.0 then regions_count rs else regions_below o rs) + ops_below o rest

  pub regions_below : OpName → Regions → ℕ
  regions_below o no_regions = 0
  regions_below o (region args ops rest) = ops_below o ops + regions_below o rest

abbrev pub tree_below : OpName → Tree → ℕ
tree_below o t = ops_below o (cons t no_ops)

pub record IsInner (k o : OpName) (t : Tree) : Type 0 where
  pub low : (t.name.0 == k.0) ≡ false
  pub below : tree_below k t < tree_below o t
  pub inside : tree_without o (tree_without k t) ≡ tree_without o t
  pub fewer : tree_below o (tree_without k t) < tree_below o t
  pub stays : ops_has o (cons (tree_without k t) no_ops) ≡ true
