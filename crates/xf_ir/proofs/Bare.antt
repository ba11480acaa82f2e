-- Trees without the bodies of linalg.generic: what is found in them is found in the whole, and so is what is found in a
-- scope.
use Rattle.std.proofs.Common.{◌≡◌, ◌∷◌, ◌++◌, true, eqb, Option, None, Some, inl, inr, refl, sym}
use Rattle.std.proofs.lemmas.Bool.{cases_Bool}
use Rattle.xf_ir.specs.declared.name.OpName.{OpName}
use Rattle.xf_ir.specs.declared.op.Module.{Module}
use Rattle.xf_ir.specs.Tree.{Ops, no_ops, op, Regions, no_regions, region, Tree}
use Rattle.xf_ir.specs.Walk.{ops_names, regions_names, ops_find, regions_find, tree_find}
use Rattle.xf_ir.specs.Kinds.{is_generic}
use Rattle.xf_ir.specs.Lists.{Once, is_among}
use Rattle.xf_ir.specs.Choices.{ops_bare, regions_bare, bare, scope_of, scope_at}
use Rattle.xf_ir.specs.Valid.{IsNamedOnce}
use Rattle.xf_ir.proofs.Lists.{at_cases, once_left, once_right, absent_before, Part, none, keep, part_none, part_append}
use Rattle.xf_ir.proofs.Lists.{not_part, once_part}
use Rattle.xf_ir.proofs.Found.{tree, first_cases, found_name, found_name_regions, lost_name, lost_name_regions}
use Rattle.xf_ir.proofs.Found.{find_inside_regions}

-- ---- names

mutual
  pub bare_names : (ops : Ops) → Part (ops_names (ops_bare ops)) (ops_names ops)
  bare_names no_ops = none
  bare_names (op n k ds os ts rs rest) =
      at_cases (is_generic k) no_regions (regions_bare rs)
      (λ x. Part (n ∷ (regions_names x ++ ops_names (ops_bare rest))) (n ∷ (regions_names rs ++ ops_names rest)))
      (λ _. keep (part_append (part_none (regions_names rs)) (bare_names rest)))
      (λ _. keep (part_append (bare_names_regions rs) (bare_names rest)))

  pub bare_names_regions : (rs : Regions) → Part (regions_names (regions_bare rs)) (regions_names rs)
  bare_names_regions no_regions = none
  bare_names_regions (region args ops rest) = part_append (bare_names ops) (bare_names_regions rest)

-- what is found without bodies has a name of the whole
pub among_whole : (name : OpName) (rs : Regions) (t : Tree) → regions_find name (regions_bare rs) ≡ Some t
    → is_among name (regions_names rs) ≡ true
among_whole name rs t h =
    elim (cases_Bool (is_among name (regions_names rs))) [
      | inl e ↦ e
      | inr e ↦ absurd (let a = not_part name (bare_names_regions rs) e in
          let b = found_name_regions name t (regions_bare rs) h in cc)
    ]

pub among_whole_ops : (name : OpName) (ops : Ops) (t : Tree) → ops_find name (ops_bare ops) ≡ Some t
    → is_among name (ops_names ops) ≡ true
among_whole_ops name ops t h =
    elim (cases_Bool (is_among name (ops_names ops))) [
      | inl e ↦ e
      | inr e ↦ absurd (let a = not_part name (bare_names ops) e in let b = found_name name t (ops_bare ops) h in cc)
    ]

-- ---- what is found without bodies is found in the whole

abbrev pub Whole : Option Tree → Tree → Type 0
Whole o t = (s : Tree) × (o ≡ Some s) × (t ≡ bare s)

mutual
  found_whole_ops : (ops : Ops) (name : OpName) (t : Tree) → Once (ops_names ops)
      → ops_find name (ops_bare ops) ≡ Some t → Whole (ops_find name ops) t
  found_whole_ops no_ops name t o h = absurd (cc)
  found_whole_ops (op n k ds os ts rs rest) name t o h =
      let ms = regions_names rs in
      let ns = ops_names rest in
      elim (cases_Bool (eqb n.0 name.0)) [
        | inl e ↦ (
            let h' = rw e at h in
            let q : bare (tree n k ds os ts rs) ≡ t = cc in
            (tree n k ds os ts rs, rw e refl, sym q))
        | inr e ↦ elim (cases_Bool (is_generic k)) [
          | inl g ↦ (
              let f : ops_find name (ops_bare rest) ≡ Some t = rw (e, g) at h in
              let w = found_whole_ops rest name t (once_right ms ns o.1) f in
              let l = lost_name_regions name rs (absent_before name ms ns o.1 (among_whole_ops name rest t f)) in
              let x = w.1 in
              (w.0, rw (e, l, x) refl, w.2))
          | inr g ↦ elim (first_cases (regions_find name (regions_bare rs)) (ops_find name (ops_bare rest)) t
              (rw (e, g) at h)) [
                | inl f ↦ (
                    let w = found_whole rs name t (once_left ms ns o.1) f in
                    let x = w.1 in
                    (w.0, rw (e, x) refl, w.2))
                | inr f ↦ (
                    let w = found_whole_ops rest name t (once_right ms ns o.1) f.1 in
                    let l = lost_name_regions name rs
                    (absent_before name ms ns o.1 (among_whole_ops name rest t f.1)) in
                    let x = w.1 in
                    (w.0, rw (e, l, x) refl, w.2))
              ]
        ]
      ]

  pub found_whole : (rs : Regions) (name : OpName) (t : Tree) → Once (regions_names rs)
      → regions_find name (regions_bare rs) ≡ Some t → Whole (regions_find name rs) t
  found_whole no_regions name t o h = absurd (cc)
  found_whole (region args ops rest) name t o h =
      let ms = ops_names ops in
      let ns = regions_names rest in
      elim (first_cases (ops_find name (ops_bare ops)) (regions_find name (regions_bare rest)) t h) [
        | inl f ↦ (let w = found_whole_ops ops name t (once_left ms ns o) f in let x = w.1 in (w.0, rw x refl, w.2))
        | inr f ↦ (
            let w = found_whole rest name t (once_right ms ns o) f.1 in
            let l = lost_name name ops (absent_before name ms ns o (among_whole name rest t f.1)) in
            let x = w.1 in
            (w.0, rw (l, x) refl, w.2))
      ]

-- ---- the root

-- what is found below the root without bodies is found without bodies in what the root holds
pub below_bare : (root t : Tree) (name : OpName) → regions_find name (bare root).regions ≡ Some t
    → regions_find name (regions_bare root.regions) ≡ Some t
below_bare root t name h =
    elim (cases_Bool (is_generic root.kind)) [ inl g ↦ absurd (let z = rw g at h in cc) | inr g ↦ rw g at h ]

pub once_bare : (root : Tree) → Once (regions_names root.regions) → Once (regions_names (bare root).regions)
once_bare root o =
    at_cases (is_generic root.kind) no_regions (regions_bare root.regions) (λ rs. Once (regions_names rs)) (λ _. tt)
    (λ _. once_part (bare_names_regions root.regions) o)

-- ---- what is found in a scope is found in the module

pub in_scope : (t : Tree) (target name : OpName) (s : Tree) → Once (regions_names t.regions)
    → regions_find name (scope_of (tree_find target t)) ≡ Some s → regions_find name t.regions ≡ Some s
in_scope t target name s o h =
    at_cases (eqb t.name.0 target.0) (Some t) (regions_find target t.regions) (λ u. regions_find name (scope_of u)
    ≡ Some s → regions_find name t.regions ≡ Some s)
    (λ _ g. g) (λ _ g. deeper (regions_find target t.regions) refl g) h
  where
    deeper : (u : Option Tree) → regions_find target t.regions ≡ u → regions_find name (scope_of u) ≡ Some s
        → regions_find name t.regions ≡ Some s
    deeper None e g = absurd (cc)
    deeper (Some x) e g = find_inside_regions t.regions target name x s o e g

-- an operation of the scope, as the module holds it
pub found_inside : (m : Module) (target name : OpName) (t : Tree) → IsNamedOnce m
    → regions_find name (scope_at m target) ≡ Some t → Whole (regions_find name m.root.regions) t
found_inside m target name t o h =
    found_whole m.root.regions name t o.once.1
    (below_bare m.root t name (in_scope (bare m.root) target name t (once_bare m.root o.once.1) h))
