-- Short lists of trees.
use Rattle.std.proofs.Common.{◌≡◌, ℕ, zero, suc, ◌+◌, ◌<◌, ◌^◌, List, [], ◌∷◌, length, get_or, refl, sym, ap, subst}
use Rattle.std.proofs.Common.{arith}
use Rattle.xf_type.specs.declared.payload_type.PayloadType.{PayloadType}
use Rattle.xf_ir.specs.declared.name.OpName.{OpName}
use Rattle.xf_ir.specs.declared.name.ValueName.{ValueName}
use Rattle.xf_ir.specs.declared.change.Change.{Change}
use Rattle.xf_ir.specs.Tree.{Ops, no_ops, op, Regions, no_regions, region, Tree, Body}
use Rattle.xf_ir.specs.View.{ops_of, regions_of}
use Rattle.xf_ir.specs.Spots.{ops_length}
use Rattle.xf_ir.specs.Changes.{operands_changed, ops_changed, regions_changed, tree_changed}
use Rattle.xf_ir.specs.Lists.{Each}
use Rattle.xf_ir.specs.RuleBlocks.{block_args}
use Rattle.xf_ir.specs.Bounds.{regions_length, blocks_of, HasShortLists, OpsShort, RegionsShort, TreeIsShort}
use Rattle.xf_ir.proofs.Found.{tree}

-- ---- lists as the code has them

abbrev pub IsShortBlock : Ops → Type 0
IsShortBlock ops = ops_length ops < 2 ^ 32

pub long_regions : (bs : List Body) → regions_length (regions_of bs) ≡ length bs
long_regions [] = refl
long_regions (b ∷ bs) = omega (arith, long_regions bs)

pub long_ops : (ts : List Tree) → ops_length (ops_of ts) ≡ length ts
long_ops [] = refl
long_ops (t ∷ ts) = omega (arith, long_ops ts)

pub short_op : (ts : List Tree) (i : ℕ) (d : Tree) → i < length ts → OpsShort (ops_of ts) → TreeIsShort (get_or ts i d)
short_op [] i d h s = absurd (omega arith)
short_op (t ∷ ts) zero d h s = record { lists = s.0; inside = s.1.0 }
short_op (t ∷ ts) (suc i) d h s = short_op ts i d (omega arith) s.1.1

pub short_block : (bs : List Body) (i : ℕ) (d : Body) → i < length bs → RegionsShort (regions_of bs)
    → OpsShort (get_or bs i d).ops
short_block [] i d h s = absurd (omega arith)
short_block (b ∷ bs) zero d h s = s.0
short_block (b ∷ bs) (suc i) d h s = short_block bs i d (omega arith) s.1

pub short_length : (bs : List Body) (i : ℕ) (d : Body) → i < length bs → Each IsShortBlock (blocks_of (regions_of bs))
    → IsShortBlock (get_or bs i d).ops
short_length [] i d h s = absurd (omega arith)
short_length (b ∷ bs) zero d h s = s.0
short_length (b ∷ bs) (suc i) d h s = short_length bs i d (omega arith) s.1

-- ---- changed uses keep lists as long as they are

long_operands : (cs : List Change) (n : OpName) (i : ℕ) (vs : List ValueName)
    → length (operands_changed cs n i vs) ≡ length vs
long_operands cs n i [] = refl
long_operands cs n i (v ∷ vs) = omega (arith, long_operands cs n (i + 1) vs)

long_ops_changed : (cs : List Change) (ops : Ops) → ops_length (ops_changed cs ops) ≡ ops_length ops
long_ops_changed cs no_ops = refl
long_ops_changed cs (op n k ds os ts rs rest) = omega (arith, long_ops_changed cs rest)

long_regions_changed : (cs : List Change) (rs : Regions) → regions_length (regions_changed cs rs) ≡ regions_length rs
long_regions_changed cs no_regions = refl
long_regions_changed cs (region args ops rest) = omega (arith, long_regions_changed cs rest)

below_along : (a b : ℕ) → a ≡ b → b < 2 ^ 32 → a < 2 ^ 32
below_along a b e h = subst (λ n. n < 2 ^ 32) (sym e) h

args_changed : (cs : List Change) (rs : Regions) → block_args (regions_changed cs rs) ≡ block_args rs
args_changed cs no_regions = refl
args_changed cs (region args ops rest) = ap (λ blocks. args ∷ blocks) (args_changed cs rest)

blocks_changed : (cs : List Change) (rs : Regions) → Each IsShortBlock (blocks_of rs)
    → Each IsShortBlock (blocks_of (regions_changed cs rs))
blocks_changed cs no_regions h = tt
blocks_changed cs (region args ops rest) h = (below_along _ _ (long_ops_changed cs ops) h.0, blocks_changed cs rest h.1)

lists_changed : (cs : List Change) (t : Tree) → HasShortLists t → HasShortLists (tree_changed cs t)
lists_changed cs t h = record {
  attributes = h.attributes;
  names = h.names;
  operands = below_along _ _ (long_operands cs t.name 0 t.operands) h.operands;
  results = h.results;
  regions = below_along _ _ (long_regions_changed cs t.regions) h.regions;
  arguments =
      subst (Each (λ (ts : List PayloadType). length ts < 2 ^ 32)) (sym (args_changed cs t.regions)) h.arguments;
  blocks = blocks_changed cs t.regions h.blocks;
  symbol = h.symbol;
  returned = h.returned;
}

mutual
  short_changed : (cs : List Change) (ops : Ops) → OpsShort ops → OpsShort (ops_changed cs ops)
  short_changed cs no_ops h = tt
  short_changed cs (op n k ds os ts rs rest) h =
      (lists_changed cs (tree n k ds os ts rs) h.0, (short_regions_changed cs rs h.1.0, short_changed cs rest h.1.1))

  short_regions_changed : (cs : List Change) (rs : Regions) → RegionsShort rs → RegionsShort (regions_changed cs rs)
  short_regions_changed cs no_regions h = tt
  short_regions_changed cs (region args ops rest) h = (short_changed cs ops h.0, short_regions_changed cs rest h.1)

pub short_tree_changed : (cs : List Change) (t : Tree) → TreeIsShort t → TreeIsShort (tree_changed cs t)
short_tree_changed cs t h =
    record { lists = lists_changed cs t h.lists; inside = short_regions_changed cs t.regions h.inside }
