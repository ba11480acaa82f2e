-- Attributes sorted by their names, and one of them set and set back.
use Rattle.std.proofs.Common.{◌≡◌, ℕ, List, [], ◌∷◌, Option, Some, None, true, false, inl, inr, refl, ap, ◌∙◌, subst}
use Rattle.std.proofs.lemmas.Bool.{cases_Bool}
use Rattle.xf_type.specs.declared.attribute.AttrValue.{AttrValue}
use Rattle.xf_ir.specs.declared.kind.Attr.{Attr}
use Rattle.xf_ir.specs.Lists.{Each, same_bytes}
use Rattle.xf_ir.specs.Attributes.{bytes_before, IsSortedByName, attr_of, without_attr, placed, with_attr, attr_set}
use Rattle.xf_ir.proofs.Lists.{each_map}
use Rattle.xf_ir.proofs.BytesOrder.{before_trans, before_or_behind, never_both, same_is, same_itself, before_other}

-- ---- sorted attributes

-- no attribute of the name
abbrev Lacks : List ℕ → List Attr → Type 0
Lacks key ds = Each (λ (e : Attr). same_bytes e.name key ≡ false) ds

-- the name comes before those of these
abbrev Before : List ℕ → List Attr → Type 0
Before key ds = Each (λ (e : Attr). bytes_before key e.name ≡ true) ds

lacks_without : (key : List ℕ) (ds : List Attr) → Lacks key (without_attr key ds)
lacks_without key [] = tt
lacks_without key (d ∷ ds) =
    let a = lacks_without key ds in
    elim (cases_Bool (same_bytes d.name key)) [ inl e ↦ rw e a | inr e ↦ rw e (e, a) ]

each_without : (P : Attr → Type 0) (key : List ℕ) (ds : List Attr) → Each P ds → Each P (without_attr key ds)
each_without P key [] h = tt
each_without P key (d ∷ ds) h =
    let a = each_without P key ds h.1 in
    elim (cases_Bool (same_bytes d.name key)) [ inl e ↦ rw e a | inr e ↦ rw e (h.0, a) ]

each_placed : (P : Attr → Type 0) (d : Attr) (ds : List Attr) → P d → Each P ds → Each P (placed d ds)
each_placed P d [] p h = (p, tt)
each_placed P d (e ∷ es) p h =
    let a = each_placed P d es p h.1 in
    elim (cases_Bool (bytes_before e.name d.name)) [ inl b ↦ rw b (h.0, a) | inr b ↦ rw b (p, h) ]

pub sorted_without : (key : List ℕ) (ds : List Attr) → IsSortedByName ds → IsSortedByName (without_attr key ds)
sorted_without key [] h = tt
sorted_without key (d ∷ ds) h =
    let a = sorted_without key ds h.1 in
    elim (cases_Bool (same_bytes d.name key)) [
      | inl e ↦ rw e a
      | inr e ↦ rw e (each_without (λ (x : Attr). bytes_before d.name x.name ≡ true) key ds h.0, a)
    ]

sorted_placed : (d : Attr) (ds : List Attr) → Lacks d.name ds → IsSortedByName ds → IsSortedByName (placed d ds)
sorted_placed d [] l h = (tt, tt)
sorted_placed d (e ∷ es) l h =
    elim (cases_Bool (bytes_before e.name d.name)) [
      | inl b ↦ rw b (
        each_placed (λ (x : Attr). bytes_before e.name x.name ≡ true) d es b h.0,
        sorted_placed d es l.1 h.1,
      )
      | inr b ↦ (
          let a = before_or_behind e.name d.name b l.0 in
          let more = each_map (λ (x : Attr). bytes_before e.name x.name ≡ true)
          (λ (x : Attr). bytes_before d.name x.name ≡ true) es (λ x t. before_trans d.name e.name x.name a t) h.0 in
          rw b ((a, more), h))
    ]

pub sorted_with : (key : List ℕ) (v : AttrValue) (ds : List Attr) → IsSortedByName ds
    → IsSortedByName (with_attr key v ds)
sorted_with key v ds h = sorted_placed (record { name = key; value = v }) (without_attr key ds) (lacks_without key ds)
    (sorted_without key ds h)

pub sorted_set : (key : List ℕ) (value : Option AttrValue) (ds : List Attr) → IsSortedByName ds
    → IsSortedByName (attr_set key value ds)
sorted_set key None ds h = sorted_without key ds h
sorted_set key (Some v) ds h = sorted_with key v ds h

-- ---- set twice is set once

without_lacking : (key : List ℕ) (ds : List Attr) → Lacks key ds → without_attr key ds ≡ ds
without_lacking key [] l = refl
without_lacking key (d ∷ ds) l = rw (l.0) (ap (λ (es : List Attr). d ∷ es) (without_lacking key ds l.1))

without_placed : (d : Attr) (ds : List Attr) → Lacks d.name ds → without_attr d.name (placed d ds) ≡ ds
without_placed d [] l = (let o = same_itself d.name in rw o refl)
without_placed d (e ∷ es) l =
    let o = same_itself d.name in
    let a = without_placed d es l.1 in
    let w = without_lacking d.name es l.1 in
    elim (cases_Bool (bytes_before e.name d.name)) [
      | inl b ↦ rw b (rw (l.0) (ap (λ (xs : List Attr). e ∷ xs) a))
      | inr b ↦ rw b (rw o (rw (l.0) (ap (λ (xs : List Attr). e ∷ xs) w)))
    ]

without_set : (key : List ℕ) (value : Option AttrValue) (ds : List Attr)
    → without_attr key (attr_set key value ds) ≡ without_attr key ds
without_set key None ds = without_lacking key (without_attr key ds) (lacks_without key ds)
without_set key (Some v) ds =
    without_placed (record { name = key; value = v }) (without_attr key ds) (lacks_without key ds)

set_twice : (key : List ℕ) (value again : Option AttrValue) (ds : List Attr)
    → attr_set key again (attr_set key value ds) ≡ attr_set key again ds
set_twice key value None ds = without_set key value ds
set_twice key value (Some v) ds = ap (placed (record { name = key; value = v })) (without_set key value ds)

-- ---- the value that is there, set again

placed_first : (d : Attr) (ds : List Attr) → Before d.name ds → placed d ds ≡ d ∷ ds
placed_first d [] b = refl
placed_first d (e ∷ es) b = (let n = never_both d.name e.name b.0 in rw n refl)

kept_first : (d : Attr) (ds : List Attr) → Before d.name ds → attr_set d.name (Some d.value) (d ∷ ds) ≡ d ∷ ds
kept_first d ds b =
    let o = same_itself d.name in
    let l = each_map (λ (x : Attr). bytes_before d.name x.name ≡ true) (λ (x : Attr). same_bytes x.name d.name
    ≡ false) ds (λ x t. before_other d.name x.name t) b in
    let w = without_lacking d.name ds l in
    rw o (ap (placed d) w ∙ placed_first d ds b)

behind_it : (d : Attr) (key : List ℕ) (v : AttrValue) (ds : List Attr) → Before d.name ds → attr_of key ds ≡ Some v
    → bytes_before d.name key ≡ true
behind_it d key v [] b h = absurd (cc)
behind_it d key v (e ∷ es) b h =
    elim (cases_Bool (same_bytes e.name key)) [
      | inl s ↦ subst (λ k. bytes_before d.name k ≡ true) (same_is e.name key s) b.0
      | inr s ↦ behind_it d key v es b.1 (rw s at h)
    ]

kept_behind : (d : Attr) (key : List ℕ) (o : Option AttrValue) (ds : List Attr) → same_bytes d.name key ≡ false
    → Before d.name ds → attr_of key ds ≡ o → attr_set key o ds ≡ ds → attr_set key o (d ∷ ds) ≡ d ∷ ds
kept_behind d key None ds s b h k = rw s (ap (λ (xs : List Attr). d ∷ xs) k)
kept_behind d key (Some v) ds s b h k =
    let a = behind_it d key v ds b h in
    rw s (rw a (ap (λ (xs : List Attr). d ∷ xs) k))

set_kept : (key : List ℕ) (ds : List Attr) → IsSortedByName ds → attr_set key (attr_of key ds) ds ≡ ds
set_kept key [] h = refl
set_kept key (d ∷ ds) h =
    elim (cases_Bool (same_bytes d.name key)) [
      | inl s ↦ (
          let k = subst (λ k. attr_set k (Some d.value) (d ∷ ds)
          ≡ d ∷ ds) (same_is d.name key s) (kept_first d ds h.0) in
          subst (λ o. attr_set key o (d ∷ ds) ≡ d ∷ ds) (let z : Some d.value ≡ attr_of key (d ∷ ds) =
          rw s refl in z) k)
      | inr s ↦ (
          let k = kept_behind d key (attr_of key ds) ds s h.0 refl (set_kept key ds h.1) in
          subst (λ o. attr_set key o (d ∷ ds) ≡ d ∷ ds) (let z : attr_of key ds ≡ attr_of key (d ∷ ds) =
          rw s refl in z) k)
    ]

-- an attribute that is set and then set to what it was
pub set_back : (key : List ℕ) (value : Option AttrValue) (ds : List Attr) → IsSortedByName ds
    → attr_set key (attr_of key ds) (attr_set key value ds) ≡ ds
set_back key value ds h = set_twice key value (attr_of key ds) ds ∙ set_kept key ds h
