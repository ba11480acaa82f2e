-- In a module without long lists each operation has none, where it stands.
use Rattle.std.proofs.Common.{ℕ, suc, length, [], ◌∷◌}
use Rattle.std.specs.Prelude.{map}
use Rattle.xf_ir.specs.declared.name.OpName.{OpName}
use Rattle.xf_ir.specs.declared.op.Module.{Module}
use Rattle.xf_ir.specs.Bounds.{HasShortLists, OpsShort, RegionsShort, ListsAreShort}
use Rattle.xf_ir.specs.Lists.{Each}
use Rattle.xf_ir.specs.Places.{done, inside}
use Rattle.xf_ir.specs.Placed.{Typed, type_at, Holder, holder_of, Placed, ops_placed, regions_placed, functions_placed}
use Rattle.xf_ir.specs.Placed.{blocks_placed, placed, root_holder}
use Rattle.xf_ir.specs.Tree.{Ops, no_ops, op, Regions, no_regions, region}
use Rattle.xf_ir.proofs.Lists.{each_both}

abbrev pub IsShortThere : Placed → Type 0
IsShortThere p = HasShortLists p.tree

mutual
  ops_each : (h : Holder) (env : Typed) (ops : Ops) → OpsShort ops → Each IsShortThere (ops_placed h env ops)
  ops_each h env no_ops s = tt
  ops_each h env (op n k ds os ts rs rest) s =
      let g = holder_of k (map (type_at env) os) ts in
      let x = (done n (length ts), ts) ∷ env in (
        s.0,
        each_both IsShortThere (regions_placed g env n 0 rs) (ops_placed h x rest) (regions_each g env n 0 rs s.1.0)
            (ops_each h x rest s.1.1),
      )

  regions_each : (h : Holder) (env : Typed) (n : OpName) (i : ℕ) (rs : Regions) → RegionsShort rs
      → Each IsShortThere (regions_placed h env n i rs)
  regions_each h env n i no_regions s = tt
  regions_each h env n i (region args ops rest) s =
      let x = (inside n i (length args), args) ∷ env in
      each_both IsShortThere (ops_placed h x ops) (regions_placed h env n (suc i) rest) (ops_each h x ops s.0)
      (regions_each h env n (suc i) rest s.1)

functions_each : (h : Holder) (fs : Ops) → OpsShort fs → Each IsShortThere (functions_placed h fs)
functions_each h no_ops s = tt
functions_each h (op n k ds os ts rs rest) s =
    let g = holder_of k (map (type_at []) os) ts in (
      s.0,
      each_both IsShortThere (regions_placed g [] n 0 rs) (functions_placed h rest) (regions_each g [] n 0 rs s.1.0)
          (functions_each h rest s.1.1),
    )

blocks_each : (h : Holder) (rs : Regions) → RegionsShort rs → Each IsShortThere (blocks_placed h rs)
blocks_each h no_regions s = tt
blocks_each h (region args ops rest) s = each_both IsShortThere (functions_placed h ops) (blocks_placed h rest)
    (functions_each h ops s.0) (blocks_each h rest s.1)

pub short_placed : (m : Module) → ListsAreShort m → Each IsShortThere (placed m)
short_placed m s = (s.lists, blocks_each (root_holder m.root) m.root.regions s.inside)
