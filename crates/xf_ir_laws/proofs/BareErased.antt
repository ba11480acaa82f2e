-- Trees without the bodies of linalg.generic: what is found in them stands in no such body, and one of their operations
-- is erased.
use Rattle.std.proofs.Common.{◌≡◌, ◌++◌, false, eqb, Some, inl, inr, refl, subst}
use Rattle.std.proofs.lemmas.Bool.{cases_Bool, or_parts}
use Rattle.xf_ir.specs.declared.name.OpName.{OpName}
use Rattle.xf_ir.specs.Tree.{Ops, no_ops, op, Regions, no_regions, region, Tree}
use Rattle.xf_ir.specs.Walk.{ops_names, regions_names, ops_find, regions_find}
use Rattle.xf_ir.specs.Kinds.{is_generic}
use Rattle.xf_ir.specs.Lists.{Once, same_name, is_among}
use Rattle.xf_ir.specs.Edits.{ops_at, regions_at, tail, tree_erased}
use Rattle.xf_ir.specs.Choices.{ops_bare, regions_bare, bare}
use Rattle.xf_ir.proofs.Lists.{not_left, not_right, once_left, once_right, once_apart, absent_before, name_is}
use Rattle.xf_ir.proofs.Found.{first_cases}
use Rattle.xf_ir.proofs.Bare.{among_whole, among_whole_ops}
use Rattle.xf_ir_laws.proofs.Kept.{OpsApart, RegionsApart}

-- ---- what is found stands in no body

mutual
  apart_absent : (name : OpName) (ops : Ops) → is_among name (ops_names ops) ≡ false → OpsApart name ops
  apart_absent name no_ops h = tt
  apart_absent name (op n k ds os ts rs rest) h =
      let ms = regions_names rs in
      let ns = ops_names rest in
      let p = or_parts (same_name n name) (is_among name (ms ++ ns)) h in (
        λ _. not_left name ms ns p.1,
        (apart_absent_regions name rs (not_left name ms ns p.1), apart_absent name rest (not_right name ms ns p.1)),
      )

  apart_absent_regions : (name : OpName) (rs : Regions) → is_among name (regions_names rs) ≡ false
      → RegionsApart name rs
  apart_absent_regions name no_regions h = tt
  apart_absent_regions name (region args ops rest) h =
      let ms = ops_names ops in
      let ns = regions_names rest in
      (apart_absent name ops (not_left name ms ns h), apart_absent_regions name rest (not_right name ms ns h))

mutual
  found_apart_ops : (ops : Ops) (name : OpName) (t : Tree) → Once (ops_names ops)
      → ops_find name (ops_bare ops) ≡ Some t → OpsApart name ops
  found_apart_ops no_ops name t o h = absurd (cc)
  found_apart_ops (op n k ds os ts rs rest) name t o h =
      let ms = regions_names rs in
      let ns = ops_names rest in
      elim (cases_Bool (eqb n.0 name.0)) [
        | inl e ↦ (
            let a : is_among name (ms ++ ns) ≡ false =
            subst (λ x. is_among x (ms ++ ns) ≡ false) (name_is n name e) o.0 in
            let b = not_left name ms ns a in
            (λ _. b, (apart_absent_regions name rs b, apart_absent name rest (not_right name ms ns a))))
        | inr e ↦ elim (cases_Bool (is_generic k)) [
          | inl g ↦ (
              let f : ops_find name (ops_bare rest) ≡ Some t = rw (e, g) at h in
              let b = absent_before name ms ns o.1 (among_whole_ops name rest t f) in
              (λ _. b, (apart_absent_regions name rs b, found_apart_ops rest name t (once_right ms ns o.1) f)))
          | inr g ↦ elim (first_cases (regions_find name (regions_bare rs)) (ops_find name (ops_bare rest)) t
              (rw (e, g) at h)) [
                | inl f ↦ (
                  λ yes. absurd (cc),
                  (
                    found_apart rs name t (once_left ms ns o.1) f,
                    apart_absent name rest (once_apart name ms ns o.1 (among_whole name rs t f)),
                  ),
                )
                | inr f ↦ (
                    let b = absent_before name ms ns o.1 (among_whole_ops name rest t f.1) in
                    (λ _. b, (apart_absent_regions name rs b, found_apart_ops rest name t (once_right ms ns o.1) f.1)))
              ]
        ]
      ]

  pub found_apart : (rs : Regions) (name : OpName) (t : Tree) → Once (regions_names rs)
      → regions_find name (regions_bare rs) ≡ Some t → RegionsApart name rs
  found_apart no_regions name t o h = absurd (cc)
  found_apart (region args ops rest) name t o h =
      let ms = ops_names ops in
      let ns = regions_names rest in
      elim (first_cases (ops_find name (ops_bare ops)) (regions_find name (regions_bare rest)) t h) [
        | inl f ↦ (
          found_apart_ops ops name t (once_left ms ns o) f,
          apart_absent_regions name rest (once_apart name ms ns o (among_whole_ops name ops t f)),
        )
        | inr f ↦ (
          apart_absent name ops (absent_before name ms ns o (among_whole name rest t f.1)),
          found_apart rest name t (once_right ms ns o) f.1,
        )
      ]

-- ---- without bodies and without an operation

mutual
  bare_at : (name : OpName) (ops : Ops) → ops_bare (ops_at name tail ops) ≡ ops_at name tail (ops_bare ops)
  bare_at name no_ops = refl
  bare_at name (op n k ds os ts rs rest) =
      elim (cases_Bool (eqb n.0 name.0)) [
        | inl e ↦ rw e refl
        | inr e ↦ elim (cases_Bool (is_generic k)) [
          | inl g ↦ (let b = bare_at name rest in rw (e, g, b) refl)
          | inr g ↦ (let a = bare_at_regions name rs in let b = bare_at name rest in rw (e, g, a, b) refl)
        ]
      ]

  bare_at_regions : (name : OpName) (rs : Regions)
      → regions_bare (regions_at name tail rs) ≡ regions_at name tail (regions_bare rs)
  bare_at_regions name no_regions = refl
  bare_at_regions name (region args ops rest) =
      (let a = bare_at name ops in let b = bare_at_regions name rest in rw (a, b) refl)

pub bare_erased : (name : OpName) (t : Tree) → bare (tree_erased name t) ≡ tree_erased name (bare t)
bare_erased name t =
    elim (cases_Bool (is_generic t.kind)) [
      | inl g ↦ rw g refl
      | inr g ↦ (let a = bare_at_regions name t.regions in rw (g, a) refl)
    ]
