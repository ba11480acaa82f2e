-- What holds of each operation where it stands, where one operation is taken out whose results are unused.
use Rattle.std.proofs.Common.{◌≡◌, ℕ, suc, List, [], ◌∷◌, ◌++◌, length, Option, true, false, eqb, refl, subst}
use Rattle.std.specs.Prelude.{map}
use Rattle.xf_type.specs.declared.payload_type.PayloadType.{PayloadType}
use Rattle.xf_ir.specs.declared.name.OpName.{OpName}
use Rattle.xf_ir.specs.Tree.{Ops, no_ops, op, Regions, no_regions, region, Tree}
use Rattle.xf_ir.specs.Walk.{ops_names, regions_names}
use Rattle.xf_ir.specs.Kinds.{is_generic}
use Rattle.xf_ir.specs.Lists.{Each, Once, is_among}
use Rattle.xf_ir.specs.Places.{Seen, done, inside, results_of}
use Rattle.xf_ir.specs.Uses.{ops_operands, regions_operands}
use Rattle.xf_ir.specs.Edits.{ops_at, regions_at, tail, tree_erased}
use Rattle.xf_ir.specs.Placed.{Typed, type_at, Holder, holder_of, Placed}
use Rattle.xf_ir.proofs.Lists.{name_is, at_cases, each_left, each_right, not_right, once_left, once_right}
use Rattle.xf_ir.proofs.Found.{tree, OpsWhere, RegionsWhere, HasResults, Outside}
use Rattle.xf_ir_laws.proofs.Erased.{at_absent, Goes}
use Rattle.xf_ir_laws.proofs.ErasedUses.{Same, same_more, same_without, types_same}
use Rattle.xf_ir_laws.proofs.Obeys.{OpsObey, RegionsObey, FunctionsObey, BlocksObey}

-- the operation of the name stands in no body of linalg.generic
abbrev mutual
  pub OpsApart : OpName → Ops → Type 0
  OpsApart name no_ops = Unit {0}
  OpsApart name (op n k ds os ts rs rest) =
      (is_generic k ≡ true → is_among name (regions_names rs) ≡ false) × (RegionsApart name rs × OpsApart name rest)

  pub RegionsApart : OpName → Regions → Type 0
  RegionsApart name no_regions = Unit {0}
  RegionsApart name (region args ops rest) = OpsApart name ops × RegionsApart name rest

-- the first operations are not the one that is taken out
abbrev pub OpsStay : OpName → Ops → Type 0
OpsStay name no_ops = Unit {0}
OpsStay name (op n k ds os ts rs rest) = (eqb n.0 name.0 ≡ false) × OpsStay name rest

abbrev pub BlocksStay : OpName → Regions → Type 0
BlocksStay name no_regions = Unit {0}
BlocksStay name (region args ops rest) = OpsStay name ops × BlocksStay name rest

abbrev pub placed_at : Holder → List (Option PayloadType) → Tree → Ops → Placed
placed_at h types t after = record { holder = h; types = types; tree = t; after = after }

-- what the first property says of an operation, the second says of it where the operation of the name is taken out of
-- what it holds and of what stands behind it
pub record KeptStep (name : OpName) (P P' : Placed → Type 0) : Type 0 where
  pub turn : (h : Holder) (types : List (Option PayloadType)) (t : Tree) (after : Ops)
      → (is_generic t.kind ≡ true → is_among name (regions_names t.regions) ≡ false) → RegionsWhere name Goes t.regions
      → P (placed_at h types t after) → P' (placed_at h types (tree_erased name t) (ops_at name tail after))

module _ (name : OpName) (count : ℕ) (P P' : Placed → Type 0) (step : KeptStep name P P') where
  -- the operation itself, with other types that are the same at its operands
  here : (h : Holder) (env env' : Typed) (t : Tree) (after : Ops)
      → map (type_at env) t.operands ≡ map (type_at env') t.operands
      → (is_generic t.kind ≡ true → is_among name (regions_names t.regions) ≡ false)
      → RegionsWhere name Goes t.regions → P (placed_at h (map (type_at env) t.operands) t after)
      → P' (placed_at h (map (type_at env') t.operands) (tree_erased name t) (ops_at name tail after))
  here h env env' t after e a g p =
      subst (λ types. P' (placed_at h types (tree_erased name t) (ops_at name tail after))) e
      (step.turn h (map (type_at env) t.operands) t after a g p)

  mutual
    ops_kept : (h : Holder) (env env' : Typed) (ops : Ops) → Same (results_of name count) env env'
        → Once (ops_names ops) → OpsWhere name (HasResults count) ops → OpsWhere name Goes ops
        → OpsApart name ops → Each (Outside (results_of name count)) (ops_operands ops) → OpsObey P h env ops
        → OpsObey P' h env' (ops_at name tail ops)
    ops_kept h env env' no_ops s o w g a u e = tt
    ops_kept h env env' (op n k ds os ts rs rest) s o w g a u e =
        let p = results_of name count in
        let ms = regions_names rs in
        let ns = ops_names rest in
        let d : Seen × List PayloadType = (done n (length ts), ts) in
        let more = regions_operands rs ++ ops_operands rest in
        let b = each_right (Outside p) os more u in
        let br = each_left (Outside p) (regions_operands rs) (ops_operands rest) b in
        let bo = each_right (Outside p) (regions_operands rs) (ops_operands rest) b in
        let q : map (type_at env) os ≡ map (type_at env') os =
        types_same p env env' os s (each_left (Outside p) os more u) in
        at_cases (eqb n.0 name.0) rest (op n k ds os ts (regions_at name tail rs) (ops_at name tail rest))
        (OpsObey P' h env')
        (λ t.
        let i = name_is n name t in
        let absent : is_among name ns ≡ false = subst (λ x. is_among x ns ≡ false) i (not_right n ms ns o.0) in
        subst (OpsObey P' h env') (at_absent name rest absent)
        (ops_kept h (d ∷ env) env' rest (same_without name n count (length ts) ts env env' i (w.0 t) s)
        (once_right ms ns o.1) w.1.1 g.1.1 a.1.1 bo e.1.1))
        (λ _. (
          here h env env' (tree n k ds os ts rs) rest q a.0 g.1.0 e.0,
          (
            subst (λ types. RegionsObey P' (holder_of k types ts) env' n 0 (regions_at name tail rs)) q
                (regions_kept (holder_of k (map (type_at env) os) ts) env env' n 0 rs s
                (once_left ms ns o.1) w.1.0 g.1.0 a.1.0 br e.1.0),
            ops_kept h (d ∷ env) (d ∷ env') rest (same_more p env env' d s) (once_right ms ns o.1)
                w.1.1 g.1.1 a.1.1 bo e.1.1,
          ),
        ))

    regions_kept : (h : Holder) (env env' : Typed) (n : OpName) (i : ℕ) (rs : Regions)
        → Same (results_of name count) env env' → Once (regions_names rs)
        → RegionsWhere name (HasResults count) rs → RegionsWhere name Goes rs → RegionsApart name rs
        → Each (Outside (results_of name count)) (regions_operands rs) → RegionsObey P h env n i rs
        → RegionsObey P' h env' n i (regions_at name tail rs)
    regions_kept h env env' n i no_regions s o w g a u e = tt
    regions_kept h env env' n i (region args ops rest) s o w g a u e =
        let p = results_of name count in
        let d : Seen × List PayloadType = (inside n i (length args), args) in (
          ops_kept h (d ∷ env) (d ∷ env') ops (same_more p env env' d s) (once_left (ops_names ops) (regions_names rest)
              o) w.0 g.0 a.0 (each_left (Outside p) (ops_operands ops) (regions_operands rest) u) e.0,
          regions_kept h env env' n (suc i) rest s (once_right (ops_names ops) (regions_names rest) o) w.1 g.1 a.1
              (each_right (Outside p) (ops_operands ops) (regions_operands rest) u) e.1,
        )

  functions_kept : (h : Holder) (fs : Ops) → OpsStay name fs → Once (ops_names fs) → OpsWhere name (HasResults count) fs
      → OpsWhere name Goes fs → OpsApart name fs → Each (Outside (results_of name count)) (ops_operands fs)
      → FunctionsObey P h fs → FunctionsObey P' h (ops_at name tail fs)
  functions_kept h no_ops t o w g a u e = tt
  functions_kept h (op n k ds os ts rs rest) t o w g a u e =
      let p = results_of name count in
      let ms = regions_names rs in
      let ns = ops_names rest in
      let b = each_right (Outside p) os (regions_operands rs ++ ops_operands rest) u in
      let br = each_left (Outside p) (regions_operands rs) (ops_operands rest) b in
      let bo = each_right (Outside p) (regions_operands rs) (ops_operands rest) b in
      let z = t.0 in
      let q : op n k ds os ts (regions_at name tail rs) (ops_at name tail rest)
      ≡ ops_at name tail (op n k ds os ts rs rest) = rw z refl in
      subst (FunctionsObey P' h) q (
        here h [] [] (tree n k ds os ts rs) rest refl a.0 g.1.0 e.0,
        (
          regions_kept (holder_of k (map (type_at []) os) ts) [] [] n 0 rs (λ v _. refl)
              (once_left ms ns o.1) w.1.0 g.1.0 a.1.0 br e.1.0,
          functions_kept h rest t.1 (once_right ms ns o.1) w.1.1 g.1.1 a.1.1 bo e.1.1,
        ),
      )

  pub blocks_kept : (h : Holder) (rs : Regions) → BlocksStay name rs
      → Once (regions_names rs) → RegionsWhere name (HasResults count) rs → RegionsWhere name Goes rs
      → RegionsApart name rs → Each (Outside (results_of name count)) (regions_operands rs) → BlocksObey P h rs
      → BlocksObey P' h (regions_at name tail rs)
  blocks_kept h no_regions t o w g a u e = tt
  blocks_kept h (region args ops rest) t o w g a u e =
      let p = results_of name count in (
        functions_kept h ops t.0 (once_left (ops_names ops) (regions_names rest) o) w.0 g.0 a.0
            (each_left (Outside p) (ops_operands ops) (regions_operands rest) u) e.0,
        blocks_kept h rest t.1 (once_right (ops_names ops) (regions_names rest) o) w.1 g.1 a.1
            (each_right (Outside p) (ops_operands ops) (regions_operands rest) u) e.1,
      )
