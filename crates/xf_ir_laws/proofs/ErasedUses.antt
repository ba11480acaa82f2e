-- What stays where one operation is taken out whose results are unused: visible uses and their types.
use Rattle.std.proofs.Common.{◌≡◌, ℕ, suc, List, [], ◌∷◌, ◌++◌, length, Bool, true, false, eqb, ◌||◌, None, is_some}
use Rattle.std.proofs.Common.{inl, inr, refl, ap, ◌∙◌}
use Rattle.std.specs.Prelude.{map}
use Rattle.std.proofs.lemmas.Bool.{or_cases}
use Rattle.xf_type.specs.declared.payload_type.PayloadType.{PayloadType}
use Rattle.xf_ir.specs.declared.name.OpName.{OpName}
use Rattle.xf_ir.specs.declared.name.ValueName.{ValueName}
use Rattle.xf_ir.specs.Tree.{Ops, no_ops, op, Regions, no_regions, region}
use Rattle.xf_ir.specs.Lists.{Each}
use Rattle.xf_ir.specs.Edits.{ops_at, regions_at, tail}
use Rattle.xf_ir.specs.Places.{Numbering, Seen, done, inside, numbering_of, results_of, sees, AllSeen}
use Rattle.xf_ir.specs.Uses.{ops_operands, regions_operands}
use Rattle.xf_ir.specs.Valid.{OpsSee, RegionsSee, FunctionsSee, Typed, type_or, type_at}
use Rattle.xf_ir.proofs.Lists.{name_is, at_cases, each_left, each_right}
use Rattle.xf_ir.proofs.Found.{OpsWhere, RegionsWhere, HasResults, Outside}

-- ---- visible uses

-- what is visible stays so, but for the values of a place
abbrev pub Still : Numbering → List Seen → List Seen → Type 0
Still p ss ss' = (v : ValueName) → Outside p v → sees ss v ≡ true → sees ss' v ≡ true

or_true : (a b : Bool) → b ≡ true → (a || b) ≡ true
or_true true b h = refl
or_true false b h = h

still_more : (p : Numbering) (ss ss' : List Seen) (s : Seen) → Still p ss ss' → Still p (s ∷ ss) (s ∷ ss')
still_more p ss ss' s k v o h =
    elim (or_cases (is_some (numbering_of s v)) (sees ss v) h) [
      | inl t ↦ rw t refl
      | inr t ↦ (let z = k v o t in or_true (is_some (numbering_of s v)) (sees ss' v) z)
    ]

still_without : (name n : OpName) (count count' : ℕ) (ss ss' : List Seen) → n ≡ name → count' ≡ count
    → Still (results_of name count) ss ss' → Still (results_of name count) (done n count' ∷ ss) ss'
still_without name n count count' ss ss' e f k v o h =
    let q : results_of n count' v ≡ None = ap (λ x. results_of x count' v) e ∙ ap (λ c. results_of name c v) f ∙ o in
    k v o (rw q at h)

all_still : (p : Numbering) (ss ss' : List Seen) (vs : List ValueName) → Still p ss ss' → Each (Outside p) vs
    → AllSeen ss vs → AllSeen ss' vs
all_still p ss ss' [] k o h = tt
all_still p ss ss' (v ∷ vs) k o h = (k v o.0 h.0, all_still p ss ss' vs k o.1 h.1)

mutual
  ops_still : (p : Numbering) (ss ss' : List Seen) (ops : Ops) → Still p ss ss' → Each (Outside p) (ops_operands ops)
      → OpsSee ss ops → OpsSee ss' ops
  ops_still p ss ss' no_ops k o h = tt
  ops_still p ss ss' (op n x ds os ts rs rest) k o h =
      let more = regions_operands rs ++ ops_operands rest in
      let b = each_right (Outside p) os more o in (
        all_still p ss ss' os k (each_left (Outside p) os more o) h.0,
        (
          regions_still p ss ss' n 0 rs k (each_left (Outside p) (regions_operands rs) (ops_operands rest) b) h.1.0,
          ops_still p (done n (length ts) ∷ ss) (done n (length ts) ∷ ss') rest (still_more p ss ss'
              (done n (length ts)) k) (each_right (Outside p) (regions_operands rs) (ops_operands rest) b) h.1.1,
        ),
      )

  regions_still : (p : Numbering) (ss ss' : List Seen) (n : OpName) (i : ℕ) (rs : Regions) → Still p ss ss'
      → Each (Outside p) (regions_operands rs) → RegionsSee ss n i rs → RegionsSee ss' n i rs
  regions_still p ss ss' n i no_regions k o h = tt
  regions_still p ss ss' n i (region args ops rest) k o h = (
    ops_still p (inside n i (length args) ∷ ss) (inside n i (length args) ∷ ss') ops (still_more p ss ss'
        (inside n i (length args)) k) (each_left (Outside p) (ops_operands ops) (regions_operands rest) o) h.0,
    regions_still p ss ss' n (suc i) rest k (each_right (Outside p) (ops_operands ops) (regions_operands rest) o) h.1,
  )

module _ (name : OpName) (count : ℕ) where
  mutual
    uses_kept_ops : (ss ss' : List Seen) (ops : Ops) → Still (results_of name count) ss ss'
        → OpsWhere name (HasResults count) ops → Each (Outside (results_of name count)) (ops_operands ops)
        → OpsSee ss ops → OpsSee ss' (ops_at name tail ops)
    uses_kept_ops ss ss' no_ops k w o h = tt
    uses_kept_ops ss ss' (op n x ds os ts rs rest) k w o h =
        let p = results_of name count in
        let d = done n (length ts) in
        let more = regions_operands rs ++ ops_operands rest in
        let b = each_right (Outside p) os more o in
        let br = each_left (Outside p) (regions_operands rs) (ops_operands rest) b in
        let bo = each_right (Outside p) (regions_operands rs) (ops_operands rest) b in
        at_cases (eqb n.0 name.0) rest (op n x ds os ts (regions_at name tail rs) (ops_at name tail rest)) (OpsSee ss')
        (λ t. ops_still p (d ∷ ss) ss' rest
        (still_without name n count (length ts) ss ss' (name_is n name t) (w.0 t) k) bo h.1.1)
        (λ _. (
          all_still p ss ss' os k (each_left (Outside p) os more o) h.0,
          (
            uses_kept ss ss' n 0 rs k w.1.0 br h.1.0,
            uses_kept_ops (d ∷ ss) (d ∷ ss') rest (still_more p ss ss' d k) w.1.1 bo h.1.1,
          ),
        ))

    uses_kept : (ss ss' : List Seen) (n : OpName) (i : ℕ) (rs : Regions) → Still (results_of name count) ss ss'
        → RegionsWhere name (HasResults count) rs → Each (Outside (results_of name count)) (regions_operands rs)
        → RegionsSee ss n i rs → RegionsSee ss' n i (regions_at name tail rs)
    uses_kept ss ss' n i no_regions k w o h = tt
    uses_kept ss ss' n i (region args ops rest) k w o h =
        let p = results_of name count in
        let d = inside n i (length args) in (
          uses_kept_ops (d ∷ ss) (d ∷ ss') ops (still_more p ss ss' d k) w.0
              (each_left (Outside p) (ops_operands ops) (regions_operands rest) o) h.0,
          uses_kept ss ss' n (suc i) rest k w.1
              (each_right (Outside p) (ops_operands ops) (regions_operands rest) o) h.1,
        )

  pub functions_see_kept : (fs : Ops) → OpsWhere name (HasResults count) fs
      → Each (Outside (results_of name count)) (ops_operands fs) → FunctionsSee fs → FunctionsSee (ops_at name tail fs)
  functions_see_kept no_ops w o h = tt
  functions_see_kept (op n x ds os ts rs rest) w o h =
      let p = results_of name count in
      let b = each_right (Outside p) os (regions_operands rs ++ ops_operands rest) o in
      let br = each_left (Outside p) (regions_operands rs) (ops_operands rest) b in
      let bo = each_right (Outside p) (regions_operands rs) (ops_operands rest) b in
      at_cases (eqb n.0 name.0) rest (op n x ds os ts (regions_at name tail rs) (ops_at name tail rest)) FunctionsSee
      (λ _. h.1.1)
      (λ _. (h.0, (uses_kept [] [] n 0 rs (λ v _ s. s) w.1.0 br h.1.0, functions_see_kept rest w.1.1 bo h.1.1)))

-- ---- types

-- types stay, but for the values of a place
abbrev pub Same : Numbering → Typed → Typed → Type 0
Same p env env' = (v : ValueName) → Outside p v → type_at env v ≡ type_at env' v

pub same_more : (p : Numbering) (env env' : Typed) (x : Seen × List PayloadType) → Same p env env'
    → Same p (x ∷ env) (x ∷ env')
same_more p env env' x k v o = ap (type_or (numbering_of x.0 v) x.1) (k v o)

pub same_without : (name n : OpName) (count count' : ℕ) (ts : List PayloadType) (env env' : Typed)
    → n ≡ name → count' ≡ count → Same (results_of name count) env env'
    → Same (results_of name count) ((done n count', ts) ∷ env) env'
same_without name n count count' ts env env' e f k v o =
    let q : results_of n count' v ≡ None = ap (λ x. results_of x count' v) e ∙ ap (λ c. results_of name c v) f ∙ o in
    ap (λ z. type_or z ts (type_at env v)) q ∙ k v o

pub types_same : (p : Numbering) (env env' : Typed) (vs : List ValueName) → Same p env env' → Each (Outside p) vs
    → map (type_at env) vs ≡ map (type_at env') vs
types_same p env env' [] k o = refl
types_same p env env' (v ∷ vs) k o = (let a = k v o.0 in let b = types_same p env env' vs k o.1 in cc)
