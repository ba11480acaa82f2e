-- Where operation names occur once and each operand is visible, each value is defined once among those that are
-- visible.
use Rattle.std.proofs.Common.{◌≡◌, ℕ, suc, List, [], ◌∷◌, ◌++◌, length, Bool, true, false, eqb, None, is_some, inl, inr}
use Rattle.std.proofs.Common.{refl, sym, subst}
use Rattle.std.proofs.lemmas.Bool.{cases_Bool, or_cases, or_from, or_parts}
use Rattle.xf_ir.specs.declared.name.OpName.{OpName}
use Rattle.xf_ir.specs.declared.name.ValueName.{ValueName}
use Rattle.xf_ir.specs.declared.name.ValueName.TheVariants.{Result, Arg, Free}
use Rattle.xf_ir.specs.declared.op.Module.{Module}
use Rattle.xf_ir.specs.Tree.{Ops, no_ops, op, Regions, no_regions, region}
use Rattle.xf_ir.specs.Walk.{ops_names, regions_names}
use Rattle.xf_ir.specs.Lists.{same_name, is_among, Once}
use Rattle.xf_ir.specs.Places.{Seen, done, inside, numbering_of, results_of, args_of, sees, IsFresh, OpsScoped}
use Rattle.xf_ir.specs.Places.{RegionsScoped, FunctionsScoped}
use Rattle.xf_ir.specs.Valid.{IsValid, OpsSee, RegionsSee, FunctionsSee, block_of, functions_of}
use Rattle.xf_ir.proofs.Lists.{name_is, other_way, not_left, not_right, once_left, once_right}

-- the operation whose place it is
abbrev owner : Seen → OpName
owner (done n count) = n
owner (inside n i count) = n

-- whether the operation that a value names is one of these
abbrev is_of : List OpName → ValueName → Bool
is_of ns (Result o num) = is_among o ns
is_of ns (Arg o r num) = is_among o ns
is_of ns (Free num) = false

-- no place is one of these operations'
abbrev Apart : List Seen → List OpName → Type 0
Apart [] ns = Unit {0}
Apart (s ∷ ss) ns = (is_among (owner s) ns ≡ false) × Apart ss ns

apart_left : (ss : List Seen) (ms ns : List OpName) → Apart ss (ms ++ ns) → Apart ss ms
apart_left [] ms ns h = tt
apart_left (s ∷ ss) ms ns h = (not_left (owner s) ms ns h.0, apart_left ss ms ns h.1)

apart_right : (ss : List Seen) (ms ns : List OpName) → Apart ss (ms ++ ns) → Apart ss ns
apart_right [] ms ns h = tt
apart_right (s ∷ ss) ms ns h = (not_right (owner s) ms ns h.0, apart_right ss ms ns h.1)

apart_rest : (ss : List Seen) (n : OpName) (ns : List OpName) → Apart ss (n ∷ ns) → Apart ss ns
apart_rest [] n ns h = tt
apart_rest (s ∷ ss) n ns h = ((or_parts (same_name n (owner s)) (is_among (owner s) ns) h.0).1, apart_rest ss n ns h.1)

-- a value of a place names the place's operation
of_place : (s : Seen) (v : ValueName) (ns : List OpName) → is_some (numbering_of s v) ≡ true
    → is_among (owner s) ns ≡ false → is_of ns v ≡ false
of_place (done n count) (Result o num) ns h k =
    elim (cases_Bool (eqb o.0 n.0)) [
      | inl t ↦ subst (λ m. is_among m ns ≡ false) (sym (name_is o n t)) k
      | inr f ↦ absurd (let z = rw f at h in cc)
    ]
of_place (done n count) (Arg o r num) ns h k = absurd (cc)
of_place (done n count) (Free num) ns h k = refl
of_place (inside n i count) (Result o num) ns h k = absurd (cc)
of_place (inside n i count) (Arg o r num) ns h k =
    elim (cases_Bool (eqb o.0 n.0)) [
      | inl t ↦ subst (λ m. is_among m ns ≡ false) (sym (name_is o n t)) k
      | inr f ↦ absurd (let z = rw f at h in cc)
    ]
of_place (inside n i count) (Free num) ns h k = refl

of_seen : (ss : List Seen) (v : ValueName) (ns : List OpName) → Apart ss ns → sees ss v ≡ true → is_of ns v ≡ false
of_seen [] v ns a h = absurd (cc)
of_seen (s ∷ ss) v ns a h =
    elim (or_cases (is_some (numbering_of s v)) (sees ss v) h) [
      | inl t ↦ of_place s v ns t a.0
      | inr t ↦ of_seen ss v ns a.1 t
    ]

no_result : (n : OpName) (count : ℕ) (v : ValueName) (ns : List OpName) → is_of (n ∷ ns) v ≡ false
    → results_of n count v ≡ None
no_result n count (Result o num) ns h =
    (let f = other_way n o (or_parts (same_name n o) (is_among o ns) h).0 in rw f refl)
no_result n count (Arg o r num) ns h = refl
no_result n count (Free num) ns h = refl

no_arg : (n : OpName) (i count : ℕ) (v : ValueName) (ns : List OpName) → is_of (n ∷ ns) v ≡ false
    → args_of n i count v ≡ None
no_arg n i count (Result o num) ns h = refl
no_arg n i count (Arg o r num) ns h =
    (let f = other_way n o (or_parts (same_name n o) (is_among o ns) h).0 in rw f refl)
no_arg n i count (Free num) ns h = refl

fresh_results : (ss : List Seen) (n : OpName) (count : ℕ) (ns : List OpName) → Apart ss (n ∷ ns)
    → IsFresh ss (results_of n count)
fresh_results ss n count ns a = record { apart = λ v h. no_result n count v ns (of_seen ss v (n ∷ ns) a h) }

fresh_args : (ss : List Seen) (n : OpName) (i count : ℕ) (ns : List OpName) → Apart ss (n ∷ ns)
    → IsFresh ss (args_of n i count)
fresh_args ss n i count ns a = record { apart = λ v h. no_arg n i count v ns (of_seen ss v (n ∷ ns) a h) }

-- the places stay apart where some names are left out
apart_own : (ss : List Seen) (n : OpName) (ms ns : List OpName) → Apart ss (n ∷ (ms ++ ns)) → Apart ss (n ∷ ms)
apart_own ss n ms ns a = apart_left ss (n ∷ ms) ns a

apart_past : (ss : List Seen) (n : OpName) (ms ns : List OpName) → Apart ss (n ∷ (ms ++ ns)) → Apart ss (n ∷ ns)
apart_past [] n ms ns a = tt
apart_past (s ∷ ss) n ms ns a =
    let p = or_parts (same_name n (owner s)) (is_among (owner s) (ms ++ ns)) a.0 in (
      or_from (same_name n (owner s)) (is_among (owner s) ns) p.0 (not_right (owner s) ms ns p.1),
      apart_past ss n ms ns a.1,
    )

mutual
  ops_scoped : (ss : List Seen) (ops : Ops) → OpsSee ss ops → Once (ops_names ops) → Apart ss (ops_names ops)
      → OpsScoped ss ops
  ops_scoped ss no_ops h o a = tt
  ops_scoped ss (op n k ds os ts rs rest) h o a =
      let ms = regions_names rs in
      let ns = ops_names rest in
      let b = apart_rest ss n (ms ++ ns) a in (
        h.0,
        (
          fresh_results ss n (length ts) (ms ++ ns) a,
          (
            regions_scoped ss n 0 rs h.1.0 (once_left ms ns o.1) (not_left n ms ns o.0) (apart_own ss n ms ns a),
            ops_scoped (done n (length ts) ∷ ss) rest h.1.1 (once_right ms ns o.1) (
              not_right n ms ns o.0,
              apart_right ss ms ns b,
            ),
          ),
        ),
      )

  regions_scoped : (ss : List Seen) (n : OpName) (i : ℕ) (rs : Regions) → RegionsSee ss n i rs → Once (regions_names rs)
      → is_among n (regions_names rs) ≡ false → Apart ss (n ∷ regions_names rs) → RegionsScoped ss n i rs
  regions_scoped ss n i no_regions h o d a = tt
  regions_scoped ss n i (region args ops rest) h o d a =
      let ms = ops_names ops in
      let ns = regions_names rest in
      let b = apart_rest ss n (ms ++ ns) a in (
        fresh_args ss n i (length args) (ms ++ ns) a,
        (
          ops_scoped (inside n i (length args) ∷ ss) ops h.0 (once_left ms ns o) (
            not_left n ms ns d,
            apart_left ss ms ns b,
          ),
          regions_scoped ss n (suc i) rest h.1 (once_right ms ns o) (not_right n ms ns d) (apart_past ss n ms ns a),
        ),
      )

functions_scoped : (fs : Ops) → FunctionsSee fs → Once (ops_names fs) → FunctionsScoped fs
functions_scoped no_ops h o = tt
functions_scoped (op n k ds os ts rs rest) h o =
    let ms = regions_names rs in
    let ns = ops_names rest in (
      regions_scoped [] n 0 rs h.1.0 (once_left ms ns o.1) (not_left n ms ns o.0) tt,
      functions_scoped rest h.1.1 (once_right ms ns o.1),
    )

block_once : (rs : Regions) → Once (regions_names rs) → Once (ops_names (block_of rs))
block_once no_regions o = tt
block_once (region args ops rest) o = once_left (ops_names ops) (regions_names rest) o

pub scoped : (m : Module) → IsValid m → FunctionsScoped (functions_of m)
scoped m v = functions_scoped (functions_of m) v.uses.functions (block_once m.root.regions v.names.once.1)
