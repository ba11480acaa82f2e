-- How far the numbers of values go: an operation takes at most one number for its results, and at most 2 ^ 32 for the
-- arguments of its first block.
use Rattle.std.proofs.Common.{ℕ, suc, ◌+◌, ◌*◌, ◌^◌, ◌<◌, ◌≤◌, List, [], length, arith}
use Rattle.xf_type.specs.declared.payload_type.PayloadType.{PayloadType}
use Rattle.xf_ir.specs.declared.name.OpName.{OpName}
use Rattle.xf_ir.specs.declared.op.Module.{Module}
use Rattle.xf_ir.specs.Bounds.{ListsAreShort}
use Rattle.xf_ir.specs.Limits.{most_operations}
use Rattle.xf_ir.specs.Count.{ops_count, regions_count, tree_count}
use Rattle.xf_ir.specs.Lists.{Each}
use Rattle.xf_ir.specs.Placed.{Typed, Holder, root_holder, functions_of, block_of}
use Rattle.xf_ir.specs.RuleBlocks.{block_args}
use Rattle.xf_ir.specs.Tree.{Ops, no_ops, op, Regions, no_regions, region}
use Rattle.xf_ir.proofs.ShortPlaced.{IsShortThere, short_placed}
use Rattle.xf_ir_laws.proofs.Obeys.{OpsObey, RegionsObey, FunctionsObey, BlocksObey, blocks_obey}
use Rattle.xf_printed.specs.Names.{no_names, first_args}
use Rattle.xf_print_laws.specs.Naming.{FunctionsNumber}
use Rattle.xf_print_laws.proofs.Entries.{number_after}
use Rattle.xf_print_laws.proofs.Entries.{argument_after}
use Rattle.xf_printed.specs.Names.{Names}
use Rattle.xf_print_laws.proofs.Entries.{Rises, ops_next, regions_next, results_rise, arguments_rise}

-- ---- the first block

pub first_short : (rs : Regions) → Each (λ (ts : List PayloadType). length ts < 2 ^ 32) (block_args rs)
    → length (first_args rs) < 2 ^ 32
first_short no_regions e = omega arith
first_short (region args ops rest) e = e.0

-- ---- numbers

module _ {get : Names → ℕ} {step : ℕ → List PayloadType → List PayloadType → ℕ} (s : Rises get step) where
  mutual
    ops_few : (ops : Ops) (h : Holder) (env : Typed) (k : ℕ) → OpsObey IsShortThere h env ops
        → ops_next step k ops ≤ k + 2 ^ 32 * ops_count ops
    ops_few no_ops h env k o = omega arith
    ops_few (op n kd ds os ts rs rest) h env k o =
        let next = step k ts (first_args rs) in
        omega (
          arith,
          s.few k ts (first_args rs) (first_short rs o.0.arguments),
          regions_few rs _ env n 0 next o.1.0,
          ops_few rest h _ (regions_next step next rs) o.1.1,
        )

    regions_few : (rs : Regions) (h : Holder) (env : Typed) (n : OpName) (i k : ℕ)
        → RegionsObey IsShortThere h env n i rs → regions_next step k rs ≤ k + 2 ^ 32 * regions_count rs
    regions_few no_regions h env n i k o = omega arith
    regions_few (region args ops rest) h env n i k o =
        omega (arith, ops_few ops h _ k o.0, regions_few rest h env n (suc i) (ops_next step k ops) o.1)

-- ---- functions

functions_number : (fs : Ops) (h : Holder) → FunctionsObey IsShortThere h fs → ops_count fs ≤ most_operations
    → FunctionsNumber fs
functions_number no_ops h o few = tt
functions_number (op n k ds os ts rs rest) h o few =
    let f : Ops = op n k ds os ts rs no_ops in
    let e = number_after no_names f in
    let g = argument_after no_names f in
    let short : OpsObey IsShortThere h [] f = (o.0, (o.1.0, tt)) in
    let p = ops_few results_rise f h [] 0 short in
    let q = ops_few arguments_rise f h [] 0 short in
    (omega (arith, e, p, few), (omega (arith, g, q, few), functions_number rest h o.1.1 (omega (arith, few))))

block_number : (rs : Regions) (h : Holder) → BlocksObey IsShortThere h rs → 1 + regions_count rs ≤ most_operations
    → FunctionsNumber (block_of rs)
block_number no_regions h o few = tt
block_number (region args ops rest) h o few = functions_number ops h o.0 (omega (arith, few))

pub module_numbers : (m : Module) → ListsAreShort m → tree_count m.root ≤ most_operations
    → FunctionsNumber (functions_of m)
module_numbers m lists few =
    block_number m.root.regions (root_holder m.root)
    (blocks_obey IsShortThere (root_holder m.root) m.root.regions (short_placed m lists).1) few
