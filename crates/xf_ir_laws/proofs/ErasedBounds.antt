-- Without an operation lists stay short, and a module stays within the limits.
use Rattle.std.proofs.Common.{◌≡◌, ℕ, ◌+◌, ◌<◌, ◌≤◌, ◌^◌, List, length, eqb, refl, sym, subst, arith}
use Rattle.xf_type.specs.declared.payload_type.PayloadType.{PayloadType}
use Rattle.xf_ir.specs.declared.name.OpName.{OpName}
use Rattle.xf_ir.specs.declared.op.Module.{Module}
use Rattle.xf_ir.specs.declared.edit.Edit.TheVariants.{Erase}
use Rattle.xf_ir.specs.Bounds.{regions_length, blocks_of, HasShortLists, OpsShort, RegionsShort, ListsAreShort}
use Rattle.xf_ir.specs.Count.{regions_count}
use Rattle.xf_ir.specs.Edits.{ops_at, regions_at, tail, tree_erased, edited}
use Rattle.xf_ir.specs.Limits.{OpsNest, RegionsNest, IsWithinLimits}
use Rattle.xf_ir.specs.Lists.{Each}
use Rattle.xf_ir.specs.Spots.{ops_length}
use Rattle.xf_ir.specs.Tree.{Ops, no_ops, op, Regions, no_regions, region, Tree}
use Rattle.xf_ir.proofs.Lists.{at_cases}
use Rattle.xf_ir.proofs.Found.{tree}
use Rattle.xf_ir_laws.proofs.Erased.{args_at}
use Rattle.xf_ir_laws.proofs.ErasingLaws.{count_stays_regions}
use Rattle.xf_ir.proofs.ShortLists.{IsShortBlock}

-- ---- lists

no_longer : (name : OpName) (ops : Ops) → ops_length (ops_at name tail ops) ≤ ops_length ops
no_longer name no_ops = omega arith
no_longer name (op n k ds os ts rs rest) =
    at_cases (eqb n.0 name.0) rest (op n k ds os ts (regions_at name tail rs) (ops_at name tail rest))
    (λ o. ops_length o ≤ ops_length (op n k ds os ts rs rest))
    (λ _. omega arith) (λ _. omega (arith, no_longer name rest))

as_many_regions : (name : OpName) (rs : Regions) → regions_length (regions_at name tail rs) ≡ regions_length rs
as_many_regions name no_regions = refl
as_many_regions name (region args ops rest) = omega (arith, as_many_regions name rest)

blocks_kept : (name : OpName) (rs : Regions) → Each IsShortBlock (blocks_of rs)
    → Each IsShortBlock (blocks_of (regions_at name tail rs))
blocks_kept name no_regions h = tt
blocks_kept name (region args ops rest) h =
    (let few = h.0 in omega (arith, few, no_longer name ops), blocks_kept name rest h.1)

lists_kept : (name : OpName) (t : Tree) → HasShortLists t → HasShortLists (tree_erased name t)
lists_kept name t h = record {
  attributes = h.attributes;
  names = h.names;
  operands = h.operands;
  results = h.results;
  regions = let few = h.regions in omega (arith, few, as_many_regions name t.regions);
  arguments = subst (Each (λ (ts : List PayloadType). length ts < 2 ^ 32)) (sym (args_at name t.regions)) h.arguments;
  blocks = blocks_kept name t.regions h.blocks;
  symbol = h.symbol;
  returned = h.returned;
}

mutual
  ops_kept : (name : OpName) (ops : Ops) → OpsShort ops → OpsShort (ops_at name tail ops)
  ops_kept name no_ops h = tt
  ops_kept name (op n k ds os ts rs rest) h =
      at_cases (eqb n.0 name.0) rest (op n k ds os ts (regions_at name tail rs) (ops_at name tail rest)) OpsShort
      (λ _. h.1.1) (λ _. (
        lists_kept name (tree n k ds os ts rs) h.0,
        (regions_kept name rs h.1.0, ops_kept name rest h.1.1),
      ))

  regions_kept : (name : OpName) (rs : Regions) → RegionsShort rs → RegionsShort (regions_at name tail rs)
  regions_kept name no_regions h = tt
  regions_kept name (region args ops rest) h = (ops_kept name ops h.0, regions_kept name rest h.1)

pub short_kept : (m : Module) (name : OpName) → ListsAreShort m → ListsAreShort (edited m (Erase name))
short_kept m name h =
    record { lists = lists_kept name m.root h.lists; inside = regions_kept name m.root.regions h.inside }

-- ---- limits

mutual
  nesting_kept : (name : OpName) (ops : Ops) (depth : ℕ) → OpsNest depth ops → OpsNest depth (ops_at name tail ops)
  nesting_kept name no_ops depth h = tt
  nesting_kept name (op n k ds os ts rs rest) depth h =
      at_cases (eqb n.0 name.0) rest (op n k ds os ts (regions_at name tail rs) (ops_at name tail rest)) (OpsNest depth)
      (λ _. h.1) (λ _. (regions_nesting_kept name rs depth h.0, nesting_kept name rest depth h.1))

  regions_nesting_kept : (name : OpName) (rs : Regions) (depth : ℕ) → RegionsNest depth rs
      → RegionsNest depth (regions_at name tail rs)
  regions_nesting_kept name no_regions depth h = tt
  regions_nesting_kept name (region args ops rest) depth h =
      (h.0, (nesting_kept name ops (depth + 1) h.1.0, regions_nesting_kept name rest depth h.1.1))

pub limits_kept : (m : Module) (name : OpName) → IsWithinLimits m → IsWithinLimits (edited m (Erase name))
limits_kept m name h = record {
  nesting = regions_nesting_kept name m.root.regions 0 h.nesting;
  number = let few = h.number in omega (arith, few, count_stays_regions name m.root.regions);
}
