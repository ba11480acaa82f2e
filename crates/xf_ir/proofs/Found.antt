-- What look-ups by name find where names occur once.
use Rattle.std.proofs.Common.{◌≡◌, ℕ, List, length, ◌++◌, true, false, eqb, Option, None, Some, ◌⊎◌, inl, inr, refl}
use Rattle.std.proofs.Common.{sym, subst, ◌∙◌}
use Rattle.std.proofs.lemmas.Bool.{cases_Bool, or_from, or_parts}
use Rattle.xf_ir.specs.declared.name.OpName.{OpName}
use Rattle.xf_type.specs.declared.payload_type.PayloadType.{PayloadType}
use Rattle.xf_ir.specs.declared.name.ValueName.{ValueName}
use Rattle.xf_ir.specs.declared.kind.Kind.{Kind}
use Rattle.xf_ir.specs.declared.kind.Attr.{Attr}
use Rattle.xf_ir.specs.Tree.{Ops, no_ops, op, Regions, no_regions, region, Tree}
use Rattle.xf_ir.specs.Walk.{ops_names, regions_names, tree_names, first_of, ops_find, regions_find, tree_find}
use Rattle.xf_ir.specs.Lists.{same_name, is_among, Once}
use Rattle.xf_ir.specs.Places.{Numbering}
use Rattle.xf_ir.specs.Valid.{block_of}
use Rattle.xf_ir.proofs.Lists.{not_both, name_is, not_left, not_right, once_left, once_right, once_apart, among_left}
use Rattle.xf_ir.proofs.Lists.{among_right, absent_before, apart_names}

-- one operation, as a tree
abbrev pub tree : OpName → Kind → List Attr → List ValueName → List PayloadType → Regions → Tree
tree n k ds os ts rs = record { name = n; kind = k; attrs = ds; operands = os; results = ts; regions = rs }

pub first_cases : {A : Type 0} (o o' : Option A) (x : A) → first_of o o' ≡ Some x
    → (o ≡ Some x) ⊎ ((o ≡ None) × (o' ≡ Some x))
first_cases None o' x h = inr (refl, h)
first_cases (Some y) o' x h = inl h

pub some_or_none : {A : Type 0} (o : Option A) → ((x : A) × (o ≡ Some x)) ⊎ (o ≡ None)
some_or_none None = inr refl
some_or_none (Some x) = inl (x, refl)

-- ---- names and look-ups

mutual
  pub found_name : (name : OpName) (t : Tree) (ops : Ops) → ops_find name ops ≡ Some t
      → is_among name (ops_names ops) ≡ true
  found_name name t no_ops h = absurd (cc)
  found_name name t (op n k ds os ts rs rest) h =
      elim (cases_Bool (eqb n.0 name.0)) [
        | inl e ↦ rw e refl
        | inr e ↦ elim (first_cases (regions_find name rs) (ops_find name rest) t (rw e at h)) [
          | inl g ↦ (let m = found_name_regions name t rs g in
              rw (e, among_left name (regions_names rs) (ops_names rest) m) refl)
          | inr g ↦ (let m = found_name name t rest g.1 in
              rw (e, among_right name (regions_names rs) (ops_names rest) m) refl)
        ]
      ]

  pub found_name_regions : (name : OpName) (t : Tree) (rs : Regions) → regions_find name rs ≡ Some t
      → is_among name (regions_names rs) ≡ true
  found_name_regions name t no_regions h = absurd (cc)
  found_name_regions name t (region args ops rest) h =
      elim (first_cases (ops_find name ops) (regions_find name rest) t h) [
        | inl g ↦ among_left name (ops_names ops) (regions_names rest) (found_name name t ops g)
        | inr g ↦ among_right name (ops_names ops) (regions_names rest) (found_name_regions name t rest g.1)
      ]

mutual
  pub lost_name : (name : OpName) (ops : Ops) → is_among name (ops_names ops) ≡ false → ops_find name ops ≡ None
  lost_name name no_ops h = refl
  lost_name name (op n k ds os ts rs rest) h =
      let p = or_parts (same_name n name) (is_among name (regions_names rs ++ ops_names rest)) h in
      let a = lost_name_regions name rs (not_left name (regions_names rs) (ops_names rest) p.1) in
      let b = lost_name name rest (not_right name (regions_names rs) (ops_names rest) p.1) in
      rw (p.0, a, b) refl

  pub lost_name_regions : (name : OpName) (rs : Regions) → is_among name (regions_names rs) ≡ false
      → regions_find name rs ≡ None
  lost_name_regions name no_regions h = refl
  lost_name_regions name (region args ops rest) h =
      let a = lost_name name ops (not_left name (ops_names ops) (regions_names rest) h) in
      let b = lost_name_regions name rest (not_right name (ops_names ops) (regions_names rest) h) in
      rw (a, b) refl

-- ---- what an operation holds is found from outside it

mutual
  pub find_inside : (ops : Ops) (target name : OpName) (s t : Tree) → Once (ops_names ops)
      → ops_find target ops ≡ Some s → regions_find name s.regions ≡ Some t → ops_find name ops ≡ Some t
  find_inside no_ops target name s t o h g = absurd (cc)
  find_inside (op n k ds os ts rs rest) target name s t o h g =
      let ms = regions_names rs in
      let ns = ops_names rest in
      elim (cases_Bool (eqb n.0 target.0)) [
        | inl e ↦ (
            let h' = rw e at h in
            let q : rs ≡ s.regions = cc in
            let g' : regions_find name rs ≡ Some t = rw q g in
            let d = apart_names name n ms (found_name_regions name t rs g') (not_left n ms ns o.0) in
            rw (d, g') refl)
        | inr e ↦ elim (first_cases (regions_find target rs) (ops_find target rest) s (rw e at h)) [
          | inl f ↦ (
              let g' = find_inside_regions rs target name s t (once_left ms ns o.1) f g in
              let d = apart_names name n ms (found_name_regions name t rs g') (not_left n ms ns o.0) in
              rw (d, g') refl)
          | inr f ↦ (
              let g' = find_inside rest target name s t (once_right ms ns o.1) f.1 g in
              let i = found_name name t rest g' in
              let d = apart_names name n ns i (not_right n ms ns o.0) in
              let l = lost_name_regions name rs (absent_before name ms ns o.1 i) in
              rw (d, l, g') refl)
        ]
      ]

  pub find_inside_regions : (rs : Regions) (target name : OpName) (s t : Tree) → Once (regions_names rs)
      → regions_find target rs ≡ Some s → regions_find name s.regions ≡ Some t → regions_find name rs ≡ Some t
  find_inside_regions no_regions target name s t o h g = absurd (cc)
  find_inside_regions (region args ops rest) target name s t o h g =
      let ms = ops_names ops in
      let ns = regions_names rest in
      elim (first_cases (ops_find target ops) (regions_find target rest) s h) [
        | inl f ↦ (let g' = find_inside ops target name s t (once_left ms ns o) f g in rw g' refl)
        | inr f ↦ (
            let g' = find_inside_regions rest target name s t (once_right ms ns o) f.1 g in
            let l = lost_name name ops (absent_before name ms ns o (found_name_regions name t rest g')) in
            rw (l, g') refl)
      ]

-- ---- the operation of a name

mutual
  pub found_named : (name : OpName) (t : Tree) (ops : Ops) → ops_find name ops ≡ Some t → t.name ≡ name
  found_named name t no_ops h = absurd (cc)
  found_named name t (op n k ds os ts rs rest) h =
      elim (cases_Bool (eqb n.0 name.0)) [
        | inl e ↦ (let h' = rw e at h in let q : n ≡ t.name = cc in sym q ∙ name_is n name e)
        | inr e ↦ elim (first_cases (regions_find name rs) (ops_find name rest) t (rw e at h)) [
          | inl g ↦ found_named_regions name t rs g
          | inr g ↦ found_named name t rest g.1
        ]
      ]

  pub found_named_regions : (name : OpName) (t : Tree) (rs : Regions) → regions_find name rs ≡ Some t → t.name ≡ name
  found_named_regions name t no_regions h = absurd (cc)
  found_named_regions name t (region args ops rest) h =
      elim (first_cases (ops_find name ops) (regions_find name rest) t h) [
        | inl g ↦ found_named name t ops g
        | inr g ↦ found_named_regions name t rest g.1
      ]

-- each operation of the name has the property
abbrev mutual
  pub OpsWhere : OpName → (Tree → Type 0) → Ops → Type 0
  OpsWhere name Q no_ops = Unit {0}
  OpsWhere name Q (op n k ds os ts rs rest) =
      (eqb n.0 name.0 ≡ true → Q (tree n k ds os ts rs)) × (RegionsWhere name Q rs × OpsWhere name Q rest)

  pub RegionsWhere : OpName → (Tree → Type 0) → Regions → Type 0
  RegionsWhere name Q no_regions = Unit {0}
  RegionsWhere name Q (region args ops rest) = OpsWhere name Q ops × RegionsWhere name Q rest

mutual
  where_absent : (name : OpName) (Q : Tree → Type 0) (ops : Ops) → is_among name (ops_names ops) ≡ false
      → OpsWhere name Q ops
  where_absent name Q no_ops h = tt
  where_absent name Q (op n k ds os ts rs rest) h =
      let ms = regions_names rs in
      let ns = ops_names rest in
      let p = or_parts (same_name n name) (is_among name (ms ++ ns)) h in (
        λ e. absurd (let z = p.0 in cc),
        (
          where_absent_regions name Q rs (not_left name ms ns p.1),
          where_absent name Q rest (not_right name ms ns p.1),
        ),
      )

  where_absent_regions : (name : OpName) (Q : Tree → Type 0) (rs : Regions) → is_among name (regions_names rs) ≡ false
      → RegionsWhere name Q rs
  where_absent_regions name Q no_regions h = tt
  where_absent_regions name Q (region args ops rest) h =
      let ms = ops_names ops in
      let ns = regions_names rest in
      (where_absent name Q ops (not_left name ms ns h), where_absent_regions name Q rest (not_right name ms ns h))

mutual
  -- where names occur once, what the operation that is found has each of its name has
  pub where_found : (name : OpName) (Q : Tree → Type 0) (t : Tree) (ops : Ops) → Once (ops_names ops)
      → ops_find name ops ≡ Some t → Q t → OpsWhere name Q ops
  where_found name Q t no_ops o h q = tt
  where_found name Q t (op n k ds os ts rs rest) o h q =
      let ms = regions_names rs in
      let ns = ops_names rest in
      elim (cases_Bool (eqb n.0 name.0)) [
        | inl e ↦ (
            let h' = rw e at h in
            let s : tree n k ds os ts rs ≡ t = cc in
            let a : is_among name (ms ++ ns) ≡ false =
            subst (λ x. is_among x (ms ++ ns) ≡ false) (name_is n name e) o.0 in (
              λ _. subst Q (sym s) q,
              (
                where_absent_regions name Q rs (not_left name ms ns a),
                where_absent name Q rest (not_right name ms ns a),
              ),
            ))
        | inr e ↦ elim (first_cases (regions_find name rs) (ops_find name rest) t (rw e at h)) [
          | inl g ↦ (
            λ f. absurd (cc),
            (
              where_found_regions name Q t rs (once_left ms ns o.1) g q,
              where_absent name Q rest (once_apart name ms ns o.1 (found_name_regions name t rs g)),
            ),
          )
          | inr g ↦ (
            λ f. absurd (cc),
            (
              where_absent_regions name Q rs (absent_before name ms ns o.1 (found_name name t rest g.1)),
              where_found name Q t rest (once_right ms ns o.1) g.1 q,
            ),
          )
        ]
      ]

  pub where_found_regions : (name : OpName) (Q : Tree → Type 0) (t : Tree) (rs : Regions) → Once (regions_names rs)
      → regions_find name rs ≡ Some t → Q t → RegionsWhere name Q rs
  where_found_regions name Q t no_regions o h q = tt
  where_found_regions name Q t (region args ops rest) o h q =
      let ms = ops_names ops in
      let ns = regions_names rest in
      elim (first_cases (ops_find name ops) (regions_find name rest) t h) [
        | inl g ↦ (
          where_found name Q t ops (once_left ms ns o) g q,
          where_absent_regions name Q rest (once_apart name ms ns o (found_name name t ops g)),
        )
        | inr g ↦ (
          where_absent name Q ops (absent_before name ms ns o (found_name_regions name t rest g.1)),
          where_found_regions name Q t rest (once_right ms ns o) g.1 q,
        )
      ]

-- ---- what is not found has no name there

pub none_of : {A : Type 0} (o o' : Option A) → first_of o o' ≡ None → (o ≡ None) × (o' ≡ None)
none_of None o' h = (refl, h)
none_of (Some x) o' h = absurd (cc)

mutual
  pub none_name : (name : OpName) (ops : Ops) → ops_find name ops ≡ None → is_among name (ops_names ops) ≡ false
  none_name name no_ops h = refl
  none_name name (op n k ds os ts rs rest) h =
      elim (cases_Bool (eqb n.0 name.0)) [
        | inl e ↦ absurd (let z = rw e at h in cc)
        | inr e ↦ (
            let p = none_of (regions_find name rs) (ops_find name rest) (rw e at h) in
            or_from (same_name n name) (is_among name (regions_names rs ++ ops_names rest)) e
            (not_both name (regions_names rs) (ops_names rest) (none_name_regions name rs p.0)
            (none_name name rest p.1)))
      ]

  pub none_name_regions : (name : OpName) (rs : Regions) → regions_find name rs ≡ None
      → is_among name (regions_names rs) ≡ false
  none_name_regions name no_regions h = refl
  none_name_regions name (region args ops rest) h =
      let p = none_of (ops_find name ops) (regions_find name rest) h in
      not_both name (ops_names ops) (regions_names rest) (none_name name ops p.0) (none_name_regions name rest p.1)

-- a name that stands among them is found
pub found_in : (name : OpName) (rs : Regions) → is_among name (regions_names rs) ≡ true
    → (t : Tree) × (regions_find name rs ≡ Some t)
found_in name rs i =
    elim (some_or_none (regions_find name rs)) [
      | inl f ↦ f
      | inr n ↦ absurd (let a = none_name_regions name rs n in cc)
    ]

pub tree_none_name : (name : OpName) (t : Tree) → tree_find name t ≡ None → is_among name (tree_names t) ≡ false
tree_none_name name t h =
    elim (cases_Bool (eqb t.name.0 name.0)) [
      | inl e ↦ absurd (let z = rw e at h in cc)
      | inr e ↦ or_from (same_name t.name name) (is_among name (regions_names t.regions)) e
          (none_name_regions name t.regions (rw e at h))
    ]

pub tree_lost_name : (name : OpName) (t : Tree) → is_among name (tree_names t) ≡ false → tree_find name t ≡ None
tree_lost_name name t h =
    let p = or_parts (same_name t.name name) (is_among name (regions_names t.regions)) h in
    let l = lost_name_regions name t.regions p.1 in
    rw (p.0, l) refl

-- ---- the first block, and the values of an operation

pub block_where : (name : OpName) (Q : Tree → Type 0) (rs : Regions) → RegionsWhere name Q rs
    → OpsWhere name Q (block_of rs)
block_where name Q no_regions w = tt
block_where name Q (region args ops rest) w = w.0

abbrev pub HasResults : ℕ → Tree → Type 0
HasResults count t = length t.results ≡ count

-- a value that the place does not define
abbrev pub Outside : Numbering → ValueName → Type 0
Outside p v = p v ≡ None
