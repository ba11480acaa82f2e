-- Changes fit a tree, and the changes back fit the changed tree.
use Rattle.std.proofs.Common.{◌≡◌, ℕ, zero, suc, ◌+◌, List, [], ◌∷◌, Some, true, false, eqb, inl, inr, refl, sym, ap}
use Rattle.std.proofs.Common.{◌∙◌, subst, arith}
use Rattle.std.specs.Prelude.{map, slice_get}
use Rattle.std.proofs.lemmas.Bool.{cases_Bool, eq-eqb, or_parts}
use Rattle.xf_ir.specs.declared.name.OpName.{OpName}
use Rattle.xf_ir.specs.declared.name.ValueName.{ValueName}
use Rattle.xf_ir.specs.declared.change.Change.{Change}
use Rattle.xf_ir.specs.Tree.{Ops, no_ops, op, Regions, no_regions, region, Tree}
use Rattle.xf_ir.specs.Walk.{ops_find, regions_find, tree_find}
use Rattle.xf_ir.specs.Lists.{Each}
use Rattle.xf_ir.specs.Changes.{is_place, value_changed, operands_changed, ops_changed, regions_changed, tree_changed}
use Rattle.xf_ir.specs.Changes.{turned, operand_of, is_place_among, PlacesOnce, FitsChanges}
use Rattle.xf_ir.proofs.Lists.{name_is, own_name}
use Rattle.xf_ir.proofs.Found.{found_named_regions}
use Rattle.xf_ir_laws.proofs.ChangeLemmas.{place_parts, operand_found, on_found, on_first}

-- ---- lists

pub each_mapped : {A B : Type 0} (P : B → Type 0) (f : A → B) (xs : List A) → Each (λ x. P (f x)) xs → Each P (map f xs)
each_mapped P f [] h = tt
each_mapped P f (x ∷ xs) h = (h.0, each_mapped P f xs h.1)

pub each_two : {A : Type 0} (P Q R : A → Type 0) (xs : List A) → ((x : A) → P x → Q x → R x) → Each P xs
    → Each Q xs → Each R xs
each_two P Q R [] f h k = tt
each_two P Q R (x ∷ xs) f h k = (f x h.0 k.0, each_two P Q R xs f h.1 k.1)

-- ---- what is found in the changed tree

mutual
  find_changed_ops : (cs : List Change) (n : OpName) (ops : Ops)
      → ops_find n (ops_changed cs ops) ≡ on_found (tree_changed cs) (ops_find n ops)
  find_changed_ops cs n no_ops = refl
  find_changed_ops cs n (op m k ds os ts rs rest) =
      elim (cases_Bool (eqb m.0 n.0)) [
        | inl e ↦ rw e refl
        | inr e ↦ (
            let a = find_changed cs n rs in
            let b = find_changed_ops cs n rest in
            rw e (rw (a, b) (sym (on_first (tree_changed cs) (regions_find n rs) (ops_find n rest)))))
      ]

  pub find_changed : (cs : List Change) (n : OpName) (rs : Regions)
      → regions_find n (regions_changed cs rs) ≡ on_found (tree_changed cs) (regions_find n rs)
  find_changed cs n no_regions = refl
  find_changed cs n (region args ops rest) =
      let a = find_changed_ops cs n ops in
      let b = find_changed cs n rest in
      rw (a, b) (sym (on_first (tree_changed cs) (ops_find n ops) (regions_find n rest)))

find_changed_tree : (cs : List Change) (n : OpName) (t : Tree)
    → tree_find n (tree_changed cs t) ≡ on_found (tree_changed cs) (tree_find n t)
find_changed_tree cs n t =
    elim (cases_Bool (eqb t.name.0 n.0)) [
      | inl e ↦ rw e refl
      | inr e ↦ rw e (find_changed cs n t.regions)
    ]

found_named_tree : (n : OpName) (t root : Tree) → tree_find n root ≡ Some t → t.name ≡ n
found_named_tree n t root h =
    elim (cases_Bool (eqb root.name.0 n.0)) [
      | inl e ↦ (let z = rw e at h in let q : root.name ≡ t.name = cc in sym q ∙ name_is root.name n e)
      | inr e ↦ found_named_regions n t root.regions (rw e at h)
    ]

-- ---- at the place of each change stands its new value

operand_changed : (cs : List Change) (n : OpName) (i j k : ℕ) (vs : List ValueName) (v : ValueName) → k ≡ i + j
    → slice_get vs j ≡ Some v → slice_get (operands_changed cs n i vs) j ≡ Some (value_changed cs n k v)
operand_changed cs n i j k [] v e h = absurd (cc)
operand_changed cs n i zero k (w ∷ vs) v e h =
    (let q : w ≡ v = cc in let z : i ≡ k = omega (arith, e) in rw (q, z) refl)
operand_changed cs n i (suc j) k (w ∷ vs) v e h = operand_changed cs n (i + 1) j k vs v (omega (arith, e)) h

place_other : (c d : Change) → is_place c.op c.operand d ≡ false → is_place d.op d.operand c ≡ false
place_other c d h =
    elim (cases_Bool (is_place d.op d.operand c)) [
      | inl t ↦ absurd (
          let p = place_parts d.op d.operand c t in
          let q = name_is c.op d.op p.0 in
          let z : is_place d.op d.operand d ≡ false =
          subst (λ n. is_place n d.operand d ≡ false) q (subst (λ i. is_place c.op i d ≡ false) p.1 h) in
          let y = own_place d in
          cc)
      | inr f ↦ f
    ]
  where
    own_place : (c : Change) → is_place c.op c.operand c ≡ true
    own_place c = (let o = own_name c.op in let e = eq-eqb c.operand c.operand refl in rw (o, e) refl)

places_other : (c : Change) (cs : List Change) → is_place_among c cs ≡ false
    → Each (λ d. is_place d.op d.operand c ≡ false) cs
places_other c [] h = tt
places_other c (d ∷ ds) h = (let p = or_parts (is_place c.op c.operand d) (is_place_among c ds) h in
    (place_other c d p.0, places_other c ds p.1))

-- the changes make of any value at the place of a change its new one
abbrev MakesNew : List Change → Change → Type 0
MakesNew cs c = (v : ValueName) → value_changed cs c.op c.operand v ≡ c.«new»

all_new : (cs : List Change) → PlacesOnce cs → Each (MakesNew cs) cs
all_new [] o = tt
all_new (c ∷ cs) o = (
  λ v. let n = own_name c.op in let e = eq-eqb c.operand c.operand refl in rw (n, e) refl,
  each_two (λ d. is_place d.op d.operand c
      ≡ false) (MakesNew cs) (MakesNew (c ∷ cs)) cs (λ d p q v. rw p (q v)) (places_other c cs o.0) (all_new cs o.1),
)

-- ---- the changes back

abbrev HasOld : Tree → Change → Type 0
HasOld root c = operand_of (tree_find c.op root) c.operand ≡ Some c.old

new_stands : (cs : List Change) (root : Tree) (c : Change) → HasOld root c → MakesNew cs c
    → HasOld (tree_changed cs root) (turned c)
new_stands cs root c h g =
    let f = operand_found (tree_find c.op root) c h in
    let t = f.0 in
    let n : t.name ≡ c.op = found_named_tree c.op t root f.1.0 in
    let r : tree_find c.op (tree_changed cs root) ≡ Some (tree_changed cs t) = find_changed_tree cs c.op root
    ∙ ap (on_found (tree_changed cs)) f.1.0 in
    let o = operand_changed cs t.name 0 c.operand c.operand t.operands c.old (omega arith) f.1.1 in
    let z : value_changed cs t.name c.operand c.old ≡ c.«new» =
    ap (λ m. value_changed cs m c.operand c.old) n ∙ g c.old in
    ap (λ x. operand_of x c.operand) r ∙ o ∙ ap (λ x. Some x) z

among_turned : (c : Change) (cs : List Change) → is_place_among (turned c) (map turned cs) ≡ is_place_among c cs
among_turned c [] = refl
among_turned c (d ∷ ds) = (let a = among_turned c ds in rw a refl)

turned_once : (cs : List Change) → PlacesOnce cs → PlacesOnce (map turned cs)
turned_once [] o = tt
turned_once (c ∷ cs) o = (among_turned c cs ∙ o.0, turned_once cs o.1)

-- changes that fit a tree, turned, fit what they make of it
pub changes_turn : (cs : List Change) (root : Tree) → FitsChanges root cs
    → FitsChanges (tree_changed cs root) (map turned cs)
changes_turn cs root f = record {
  once = turned_once cs f.once;
  old = each_mapped (HasOld (tree_changed cs root)) turned cs (each_two (HasOld root) (MakesNew cs)
      (λ c. HasOld (tree_changed cs root) (turned c)) cs (new_stands cs root) f.old (all_new cs f.once));
}
