-- What holds of each operation where it stands, along the tree.
use Rattle.std.proofs.Common.{◌≡◌, ℕ, suc, [], ◌∷◌, length, Bool, true}
use Rattle.std.specs.Prelude.{map}
use Rattle.xf_ir.specs.declared.name.OpName.{OpName}
use Rattle.xf_ir.specs.Tree.{Ops, no_ops, op, Regions, no_regions, region}
use Rattle.xf_ir.specs.Lists.{Each}
use Rattle.xf_ir.specs.Places.{done, inside}
use Rattle.xf_ir.specs.Placed.{Typed, type_at, Holder, holder_of, Placed, place, ops_placed, regions_placed}
use Rattle.xf_ir.specs.Placed.{functions_placed, blocks_placed}
use Rattle.xf_ir.proofs.Lists.{each_left, each_right, each_both}
use Rattle.xf_ir.proofs.Found.{tree}

module _ (P : Placed → Type 0) where
  abbrev mutual
    pub OpsObey : Holder → Typed → Ops → Type 0
    OpsObey h env no_ops = Unit {0}
    OpsObey h env (op n k ds os ts rs rest) =
        P (place h env (tree n k ds os ts rs) rest) × (RegionsObey (holder_of k (map (type_at env) os) ts) env n 0 rs
        × OpsObey h ((done n (length ts), ts) ∷ env) rest)

    pub RegionsObey : Holder → Typed → OpName → ℕ → Regions → Type 0
    RegionsObey h env n i no_regions = Unit {0}
    RegionsObey h env n i (region args ops rest) =
        OpsObey h ((inside n i (length args), args) ∷ env) ops × RegionsObey h env n (suc i) rest

  abbrev pub FunctionsObey : Holder → Ops → Type 0
  FunctionsObey h no_ops = Unit {0}
  FunctionsObey h (op n k ds os ts rs rest) =
      P (place h [] (tree n k ds os ts rs) rest)
      × (RegionsObey (holder_of k (map (type_at []) os) ts) [] n 0 rs × FunctionsObey h rest)

  abbrev pub BlocksObey : Holder → Regions → Type 0
  BlocksObey h no_regions = Unit {0}
  BlocksObey h (region args ops rest) = FunctionsObey h ops × BlocksObey h rest

  mutual
    pub ops_obey : (h : Holder) (env : Typed) (ops : Ops) → Each P (ops_placed h env ops) → OpsObey h env ops
    ops_obey h env no_ops e = tt
    ops_obey h env (op n k ds os ts rs rest) e =
        let g = holder_of k (map (type_at env) os) ts in
        let x = (done n (length ts), ts) ∷ env in (
          e.0,
          (
            regions_obey g env n 0 rs (each_left P (regions_placed g env n 0 rs) (ops_placed h x rest) e.1),
            ops_obey h x rest (each_right P (regions_placed g env n 0 rs) (ops_placed h x rest) e.1),
          ),
        )

    pub regions_obey : (h : Holder) (env : Typed) (n : OpName) (i : ℕ) (rs : Regions)
        → Each P (regions_placed h env n i rs) → RegionsObey h env n i rs
    regions_obey h env n i no_regions e = tt
    regions_obey h env n i (region args ops rest) e =
        let x = (inside n i (length args), args) ∷ env in (
          ops_obey h x ops (each_left P (ops_placed h x ops) (regions_placed h env n (suc i) rest) e),
          regions_obey h env n (suc i) rest (each_right P (ops_placed h x ops) (regions_placed h env n (suc i) rest) e),
        )

  pub functions_obey : (h : Holder) (fs : Ops) → Each P (functions_placed h fs) → FunctionsObey h fs
  functions_obey h no_ops e = tt
  functions_obey h (op n k ds os ts rs rest) e =
      let g = holder_of k (map (type_at []) os) ts in (
        e.0,
        (
          regions_obey g [] n 0 rs (each_left P (regions_placed g [] n 0 rs) (functions_placed h rest) e.1),
          functions_obey h rest (each_right P (regions_placed g [] n 0 rs) (functions_placed h rest) e.1),
        ),
      )

  pub blocks_obey : (h : Holder) (rs : Regions) → Each P (blocks_placed h rs) → BlocksObey h rs
  blocks_obey h no_regions e = tt
  blocks_obey h (region args ops rest) e = (
    functions_obey h ops (each_left P (functions_placed h ops) (blocks_placed h rest) e),
    blocks_obey h rest (each_right P (functions_placed h ops) (blocks_placed h rest) e),
  )

  mutual
    pub each_ops : (h : Holder) (env : Typed) (ops : Ops) → OpsObey h env ops → Each P (ops_placed h env ops)
    each_ops h env no_ops e = tt
    each_ops h env (op n k ds os ts rs rest) e =
        let g = holder_of k (map (type_at env) os) ts in
        let x = (done n (length ts), ts) ∷ env in (
          e.0,
          each_both P (regions_placed g env n 0 rs) (ops_placed h x rest) (each_regions g env n 0 rs e.1.0)
              (each_ops h x rest e.1.1),
        )

    pub each_regions : (h : Holder) (env : Typed) (n : OpName) (i : ℕ) (rs : Regions) → RegionsObey h env n i rs
        → Each P (regions_placed h env n i rs)
    each_regions h env n i no_regions e = tt
    each_regions h env n i (region args ops rest) e =
        let x = (inside n i (length args), args) ∷ env in
        each_both P (ops_placed h x ops) (regions_placed h env n (suc i) rest) (each_ops h x ops e.0)
        (each_regions h env n (suc i) rest e.1)

  pub each_functions : (h : Holder) (fs : Ops) → FunctionsObey h fs → Each P (functions_placed h fs)
  each_functions h no_ops e = tt
  each_functions h (op n k ds os ts rs rest) e =
      let g = holder_of k (map (type_at []) os) ts in (
        e.0,
        each_both P (regions_placed g [] n 0 rs) (functions_placed h rest) (each_regions g [] n 0 rs e.1.0)
            (each_functions h rest e.1.1),
      )

  pub each_blocks : (h : Holder) (rs : Regions) → BlocksObey h rs → Each P (blocks_placed h rs)
  each_blocks h no_regions e = tt
  each_blocks h (region args ops rest) e =
      each_both P (functions_placed h ops) (blocks_placed h rest) (each_functions h ops e.0) (each_blocks h rest e.1)

-- what passes, as a type
abbrev pub Passes : (Placed → Bool) → Placed → Type 0
Passes passes p = passes p ≡ true
