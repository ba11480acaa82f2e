-- Attributes changed in trees, and changed back.
use Rattle.std.proofs.Common.{◌≡◌, List, Some, eqb, inl, inr, refl, sym, ap}
use Rattle.std.proofs.lemmas.Bool.{cases_Bool}
use Rattle.xf_ir.specs.declared.name.OpName.{OpName}
use Rattle.xf_ir.specs.declared.kind.Attr.{Attr}
use Rattle.xf_ir.specs.Tree.{Ops, no_ops, op, Regions, no_regions, region, Tree}
use Rattle.xf_ir.specs.Walk.{ops_find, regions_find, tree_names, tree_find}
use Rattle.xf_ir.specs.Lists.{Once}
use Rattle.xf_ir.specs.Changes.{ops_attributed, regions_attributed, tree_attributed}
use Rattle.xf_ir.proofs.Found.{OpsWhere, RegionsWhere, where_found}
use Rattle.xf_ir_laws.proofs.ChangeLemmas.{on_found, on_first, alone, find_alone, once_alone, first_or}

-- ---- the change back

-- the second change of its attributes undoes the first
abbrev Returns : (List Attr → List Attr) → (List Attr → List Attr) → Tree → Type 0
Returns f g t = g (f t.attrs) ≡ t.attrs

mutual
  attributed_back : (name : OpName) (f g : List Attr → List Attr) (ops : Ops) → OpsWhere name (Returns f g) ops
      → ops_attributed name g (ops_attributed name f ops) ≡ ops
  attributed_back name f g no_ops w = refl
  attributed_back name f g (op n k ds os ts rs rest) w =
      let a = attributed_back_regions name f g rs w.1.0 in
      let b = attributed_back name f g rest w.1.1 in
      elim (cases_Bool (eqb n.0 name.0)) [
        | inl e ↦ (let d = w.0 e in rw e (rw (d, a, b) refl))
        | inr e ↦ rw e (rw (a, b) refl)
      ]

  attributed_back_regions : (name : OpName) (f g : List Attr → List Attr) (rs : Regions)
      → RegionsWhere name (Returns f g) rs → regions_attributed name g (regions_attributed name f rs) ≡ rs
  attributed_back_regions name f g no_regions w = refl
  attributed_back_regions name f g (region args ops rest) w =
      let a = attributed_back name f g ops w.0 in
      let b = attributed_back_regions name f g rest w.1 in
      rw (a, b) refl

-- where names occur once, a change that undoes another at the operation of a name undoes it in the tree
pub tree_attributed_back : (name : OpName) (f g : List Attr → List Attr) (root t : Tree)
    → Once (tree_names root) → tree_find name root ≡ Some t → g (f t.attrs) ≡ t.attrs
    → tree_attributed name g (tree_attributed name f root) ≡ root
tree_attributed_back name f g root t o h r =
    let w = where_found name (Returns f g) t (alone root) (once_alone root o) (find_alone name root t h) r in
    let q = attributed_back name f g (alone root) w in
    ap (first_or root) q

-- ---- what is found

mutual
  find_attributed_ops : (name : OpName) (f : List Attr → List Attr) (n : OpName) (ops : Ops)
      → ops_find n (ops_attributed name f ops) ≡ on_found (tree_attributed name f) (ops_find n ops)
  find_attributed_ops name f n no_ops = refl
  find_attributed_ops name f n (op m k ds os ts rs rest) =
      elim (cases_Bool (eqb m.0 n.0)) [
        | inl e ↦ rw e refl
        | inr e ↦ (
            let a = find_attributed_regions name f n rs in
            let b = find_attributed_ops name f n rest in
            rw e (rw (a, b) (sym (on_first (tree_attributed name f) (regions_find n rs) (ops_find n rest)))))
      ]

  find_attributed_regions : (name : OpName) (f : List Attr → List Attr) (n : OpName) (rs : Regions)
      → regions_find n (regions_attributed name f rs) ≡ on_found (tree_attributed name f) (regions_find n rs)
  find_attributed_regions name f n no_regions = refl
  find_attributed_regions name f n (region args ops rest) =
      let a = find_attributed_ops name f n ops in
      let b = find_attributed_regions name f n rest in
      rw (a, b) (sym (on_first (tree_attributed name f) (ops_find n ops) (regions_find n rest)))

pub find_attributed : (name : OpName) (f : List Attr → List Attr) (n : OpName) (t : Tree)
    → tree_find n (tree_attributed name f t) ≡ on_found (tree_attributed name f) (tree_find n t)
find_attributed name f n t =
    elim (cases_Bool (eqb t.name.0 n.0)) [
      | inl e ↦ rw e refl
      | inr e ↦ rw e (find_attributed_regions name f n t.regions)
    ]
