-- What the rules ask of an operation, they ask of it under other names.
use Rattle.std.proofs.Common.{◌≡◌, ℕ, zero, suc, cond, not, List, ◌∷◌, ◌++◌, Option, None, Some, is_none, inl, inr}
use Rattle.std.proofs.Common.{refl, ap, ◌∙◌}
use Rattle.std.specs.Prelude.{◌&&◌, ◌||◌}
use Rattle.std.proofs.lemmas.Bool.{cases_Bool}
use Rattle.xf_ir.specs.declared.kind.Kind.{Kind}
use Rattle.xf_ir.specs.declared.kind.Kind.TheVariants as kind
use Rattle.xf_ir.specs.declared.name.OpName.{OpName}
use Rattle.xf_ir.specs.Calls.{Signature, signature, first_args, function_of, has_symbol, callee_before, ops_callees}
use Rattle.xf_ir.specs.Calls.{regions_callees, callees_of, chains_end, chain_ends, has_short_chains}
use Rattle.xf_ir.specs.Kinds.{callee_of, is_terminator, ends_for, is_endless, returned_types}
use Rattle.xf_ir.specs.Lists.{every, option_passes}
use Rattle.xf_ir.specs.Placed.{Placed}
use Rattle.xf_ir.specs.RuleAttributes.{type_fits, has_types_in_range}
use Rattle.xf_ir.specs.RuleBlocks.{block_args, blocks_fit, has_its_regions, is_end, block_ends, blocks_end}
use Rattle.xf_ir.specs.RuleBlocks.{ends_its_blocks}
use Rattle.xf_ir.specs.Tree.{Ops, no_ops, op, Regions, no_regions, region, Tree}
use Rattle.xf_ir.specs.Valid.{OpsInner, RegionsInner, FunctionsAlone, BlocksAlone, symbols_before, symbols_of}
use Rattle.xf_ir.specs.Valid.{symbols_in, block_of}
use Rattle.xf_ir.specs.Renamed.{ops_renamed, regions_renamed, tree_renamed}
use Rattle.xf_ir_laws.proofs.RenamedPlaces.{placed_renamed}

module _ (f : OpName → OpName) where
  -- ---- V2: functions

  mutual
    ops_inner : (ops : Ops) → OpsInner ops → OpsInner (ops_renamed f ops)
    ops_inner no_ops h = tt
    ops_inner (op n k ds os ts rs rest) h = (h.0, (regions_inner rs h.1.0, ops_inner rest h.1.1))

    regions_inner : (rs : Regions) → RegionsInner rs → RegionsInner (regions_renamed f rs)
    regions_inner no_regions h = tt
    regions_inner (region args ops rest) h = (ops_inner ops h.0, regions_inner rest h.1)

  functions_alone : (fs : Ops) → FunctionsAlone fs → FunctionsAlone (ops_renamed f fs)
  functions_alone no_ops h = tt
  functions_alone (op n k ds os ts rs rest) h = (h.0, (regions_inner rs h.1.0, functions_alone rest h.1.1))

  pub blocks_alone : (rs : Regions) → BlocksAlone rs → BlocksAlone (regions_renamed f rs)
  blocks_alone no_regions h = tt
  blocks_alone (region args ops rest) h = (functions_alone ops h.0, blocks_alone rest h.1)

  symbols_same : (fs : Ops) → symbols_of (ops_renamed f fs) ≡ symbols_of fs
  symbols_same no_ops = refl
  symbols_same (op n k ds os ts rs rest) = ap (symbols_before k) (symbols_same rest)

  pub symbols_in_same : (rs : Regions) → symbols_in (regions_renamed f rs) ≡ symbols_in rs
  symbols_in_same no_regions = refl
  symbols_in_same (region args ops rest) =
      let a = symbols_same ops in
      let b = symbols_in_same rest in
      λ i. a i ++ b i

  -- ---- V3, V4 and V15: regions and blocks

  args_same : (rs : Regions) → block_args (regions_renamed f rs) ≡ block_args rs
  args_same no_regions = refl
  args_same (region args ops rest) = ap (λ more. args ∷ more) (args_same rest)

  pub regions_same : (p : Placed) → has_its_regions (placed_renamed f p) ≡ has_its_regions p
  regions_same p = ap (blocks_fit p.tree.kind p.types p.tree.results) (args_same p.tree.regions)

  pub ranges_same : (p : Placed) → has_types_in_range (placed_renamed f p) ≡ has_types_in_range p
  ranges_same p = ap (λ blocks. every type_fits p.tree.results
      && (every type_fits (returned_types p.tree.kind) && every (every type_fits) blocks)) (args_same p.tree.regions)

  end_same : (ops : Ops) → is_end (ops_renamed f ops) ≡ is_end ops
  end_same no_ops = refl
  end_same (op n k ds os ts rs rest) = refl

  block_ends_same : (holder : Kind) (ops : Ops) → block_ends holder (ops_renamed f ops) ≡ block_ends holder ops
  block_ends_same holder no_ops = refl
  block_ends_same holder (op n k ds os ts rs rest) =
      let a = end_same rest in
      let b = block_ends_same holder rest in
      λ i. cond (a i) (is_endless holder || ends_for holder k) (b i)

  blocks_end_same : (holder : Kind) (rs : Regions) → blocks_end holder (regions_renamed f rs) ≡ blocks_end holder rs
  blocks_end_same holder no_regions = refl
  blocks_end_same holder (region args ops rest) =
      let a = block_ends_same holder ops in
      let b = blocks_end_same holder rest in
      λ i. a i && b i

  pub blocks_same : (p : Placed) → ends_its_blocks (placed_renamed f p) ≡ ends_its_blocks p
  blocks_same p =
      let a = blocks_end_same p.tree.kind p.tree.regions in
      let b = end_same p.after in
      λ i. a i && (not (is_terminator p.tree.kind) || (b i && ends_for p.holder.kind p.tree.kind))

  -- ---- V6 and V8: what symbols name

  abbrev pub renamed_or : Option Tree → Option Tree
  renamed_or None = None
  renamed_or (Some t) = Some (tree_renamed f t)

  function_same : (s : List ℕ) (fs : Ops) → function_of s (ops_renamed f fs) ≡ renamed_or (function_of s fs)
  function_same s no_ops = refl
  function_same s (op n k ds os ts rs rest) =
      elim (cases_Bool (has_symbol s k)) [
        | inl e ↦ rw e refl
        | inr e ↦ (let r = function_same s rest in rw (e, r) refl)
      ]

  first_args_same : (rs : Regions) → first_args (regions_renamed f rs) ≡ first_args rs
  first_args_same no_regions = refl
  first_args_same (region args ops rest) = refl

  signature_or_same : (o : Option Tree) → signature (renamed_or o) ≡ signature o
  signature_or_same None = refl
  signature_or_same (Some t) =
      ap (λ args. Some (let x : Signature = record { inputs = args; results = returned_types t.kind } in x))
      (first_args_same t.regions)

  pub signature_same : (fs : Ops) (s : List ℕ)
      → signature (function_of s (ops_renamed f fs)) ≡ signature (function_of s fs)
  signature_same fs s = ap signature (function_same s fs) ∙ signature_or_same (function_of s fs)

  pub block_same : (rs : Regions) → block_of (regions_renamed f rs) ≡ ops_renamed f (block_of rs)
  block_same no_regions = refl
  block_same (region args ops rest) = refl

  -- ---- V9: chains of calls

  mutual
    callees_same : (ops : Ops) → ops_callees (ops_renamed f ops) ≡ ops_callees ops
    callees_same no_ops = refl
    callees_same (op n k ds os ts rs rest) =
        let a = callees_in_same rs in
        let b = callees_same rest in
        λ i. callee_before k (a i ++ b i)

    callees_in_same : (rs : Regions) → regions_callees (regions_renamed f rs) ≡ regions_callees rs
    callees_in_same no_regions = refl
    callees_in_same (region args ops rest) =
        let a = callees_same ops in
        let b = callees_in_same rest in
        λ i. a i ++ b i

  callees_or_same : (o : Option Tree) → callees_of (renamed_or o) ≡ callees_of o
  callees_or_same None = refl
  callees_or_same (Some t) = callees_in_same t.regions

  none_same : (o : Option Tree) → is_none (renamed_or o) ≡ is_none o
  none_same None = refl
  none_same (Some t) = refl

  chains_same : (fs : Ops) (k : ℕ) (s : List ℕ) → chains_end (ops_renamed f fs) k s ≡ chains_end fs k s
  chains_same fs zero s = ap is_none (function_same s fs) ∙ none_same (function_of s fs)
  chains_same fs (suc k) s =
      let a : (c : List ℕ) → chains_end (ops_renamed f fs) k c ≡ chains_end fs k c = chains_same fs k in
      let b = ap callees_of (function_same s fs) ∙ callees_or_same (function_of s fs) in
      λ i. every (λ c. a c i) (b i)

  chain_same : (fs : Ops) (k : Kind) → chain_ends (ops_renamed f fs) k ≡ chain_ends fs k
  chain_same fs k = let a : (c : List ℕ) → chains_end (ops_renamed f fs) 31 c ≡ chains_end fs 31 c =
      chains_same fs 31 in λ i. option_passes (λ c. a c i) (callee_of k)

  pub short_same : (fs : Ops) (p : Placed)
      → has_short_chains (ops_renamed f fs) (placed_renamed f p) ≡ has_short_chains fs p
  short_same fs p = chain_same fs p.tree.kind
