-- Changed uses, and the changes back.
use Rattle.std.proofs.Common.{◌≡◌, ℕ, suc, ◌+◌, List, [], ◌∷◌, ◌++◌, Option, Some, None, true, eqb, inl, inr, refl, sym}
use Rattle.std.proofs.Common.{ap, ◌∙◌, subst, arith}
use Rattle.std.specs.Prelude.{map, slice_get}
use Rattle.std.proofs.lemmas.Bool.{cases_Bool, eqb-true}
use Rattle.xf_ir.specs.declared.name.OpName.{OpName}
use Rattle.xf_ir.specs.declared.name.ValueName.{ValueName}
use Rattle.xf_ir.specs.declared.change.Change.{Change}
use Rattle.xf_ir.specs.Tree.{Ops, no_ops, op, Regions, no_regions, region, Tree, cons}
use Rattle.xf_ir.specs.Walk.{first_of, ops_names, regions_names, tree_names, tree_find, ops_find}
use Rattle.xf_ir.specs.Lists.{Each, same_name, Once}
use Rattle.xf_ir.specs.Changes.{is_place, value_changed, operands_changed, ops_changed, regions_changed, tree_changed}
use Rattle.xf_ir.specs.Changes.{turned, operand_of}
use Rattle.xf_ir.proofs.Lists.{name_is, own_name, each_map}
use Rattle.xf_ir.proofs.Found.{tree, OpsWhere, RegionsWhere, where_found}

-- ---- names

mutual
  pub names_changed : (cs : List Change) (ops : Ops) → ops_names (ops_changed cs ops) ≡ ops_names ops
  names_changed cs no_ops = refl
  names_changed cs (op n k ds os ts rs rest) =
      (let a = names_changed_regions cs rs in let b = names_changed cs rest in rw (a, b) refl)

  pub names_changed_regions : (cs : List Change) (rs : Regions)
      → regions_names (regions_changed cs rs) ≡ regions_names rs
  names_changed_regions cs no_regions = refl
  names_changed_regions cs (region args ops rest) =
      (let a = names_changed cs ops in let b = names_changed_regions cs rest in rw (a, b) refl)

pub tree_names_changed : (cs : List Change) (t : Tree) → tree_names (tree_changed cs t) ≡ tree_names t
tree_names_changed cs t = ap (λ (ns : List OpName). t.name ∷ ns) (names_changed_regions cs t.regions)

-- ---- what is found in a tree that is changed

abbrev pub on_found : (Tree → Tree) → Option Tree → Option Tree
on_found f None = None
on_found f (Some t) = Some (f t)

pub on_first : (f : Tree → Tree) (a b : Option Tree)
    → on_found f (first_of a b) ≡ first_of (on_found f a) (on_found f b)
on_first f None b = refl
on_first f (Some t) b = refl

-- ---- the changes back

-- each change of operand i of the operation has the value as its old one
abbrev OldAt : List Change → OpName → ℕ → ValueName → Type 0
OldAt cs n i v = Each (λ (c : Change). is_place n i c ≡ true → v ≡ c.old) cs

value_back : (cs : List Change) (n : OpName) (i : ℕ) (v : ValueName) → OldAt cs n i v
    → value_changed (map turned cs) n i (value_changed cs n i v) ≡ v
value_back [] n i v h = refl
value_back (c ∷ cs) n i v h =
    elim (cases_Bool (is_place n i c)) [
      | inl e ↦ rw e (sym (h.0 e))
      | inr e ↦ rw e (value_back cs n i v h.1)
    ]

abbrev OperandsOld : List Change → OpName → ℕ → List ValueName → Type 0
OperandsOld cs n i [] = Unit {0}
OperandsOld cs n i (v ∷ vs) = OldAt cs n i v × OperandsOld cs n (i + 1) vs

operands_back : (cs : List Change) (n : OpName) (i : ℕ) (vs : List ValueName) → OperandsOld cs n i vs
    → operands_changed (map turned cs) n i (operands_changed cs n i vs) ≡ vs
operands_back cs n i [] h = refl
operands_back cs n i (v ∷ vs) h =
    (let a = value_back cs n i v h.0 in let b = operands_back cs n (i + 1) vs h.1 in rw (a, b) refl)

-- the change's old value stands at its place among operands from i on
abbrev Stands : OpName → ℕ → List ValueName → Change → Type 0
Stands n i vs c = same_name c.op n ≡ true → (j : ℕ) → c.operand ≡ i + j → slice_get vs j ≡ Some c.old

pub place_parts : (n : OpName) (i : ℕ) (c : Change) → is_place n i c ≡ true
    → (same_name c.op n ≡ true) × (c.operand ≡ i)
place_parts n i c h =
    elim (cases_Bool (same_name c.op n)) [
      | inl e ↦ (e, eqb-true c.operand i (rw e at h))
      | inr e ↦ absurd (let z = rw e at h in cc)
    ]

stands_here : (n : OpName) (i : ℕ) (v : ValueName) (vs : List ValueName) (c : Change) → Stands n i (v ∷ vs) c
    → is_place n i c ≡ true → v ≡ c.old
stands_here n i v vs c h e =
    let p = place_parts n i c e in
    let q = h p.0 0 (p.1 ∙ omega arith) in
    let r : Some v ≡ Some c.old = q in
    cc

stands_behind : (n : OpName) (i : ℕ) (v : ValueName) (vs : List ValueName) (c : Change) → Stands n i (v ∷ vs) c
    → Stands n (i + 1) vs c
stands_behind n i v vs c h e j q = h e (suc j) (q ∙ omega arith)

operands_old : (cs : List Change) (n : OpName) (i : ℕ) (vs : List ValueName) → Each (Stands n i vs) cs
    → OperandsOld cs n i vs
operands_old cs n i [] h = tt
operands_old cs n i (v ∷ vs) h = (
  each_map (Stands n i (v ∷ vs)) (λ (c : Change). is_place n i c ≡ true → v ≡ c.old) cs (stands_here n i v vs) h,
  operands_old cs n (i + 1) vs (each_map (Stands n i (v ∷ vs)) (Stands n (i + 1) vs) cs (stands_behind n i v vs) h),
)

-- the operand of a change
abbrev HasOld : Change → Tree → Type 0
HasOld c t = slice_get t.operands c.operand ≡ Some c.old

stands_first : (n : OpName) (vs : List ValueName) (c : Change)
    → (same_name c.op n ≡ true → slice_get vs c.operand ≡ Some c.old) → Stands n 0 vs c
stands_first n vs c h e j q =
    (let z : c.operand ≡ j = q ∙ omega arith in subst (λ i. slice_get vs i ≡ Some c.old) z (h e))

turn_name : (m n : OpName) → same_name m n ≡ true → eqb n.0 m.0 ≡ true
turn_name m n h = subst (λ (x : OpName). eqb x.0 m.0 ≡ true) (name_is m n h) (own_name m)

mutual
  changed_back : (cs : List Change) (ops : Ops) → Each (λ (c : Change). OpsWhere c.op (HasOld c) ops) cs
      → ops_changed (map turned cs) (ops_changed cs ops) ≡ ops
  changed_back cs no_ops h = refl
  changed_back cs (op n k ds os ts rs rest) h =
      let all = op n k ds os ts rs rest in
      let here : Each (Stands n 0 os) cs = each_map (λ (c : Change). OpsWhere c.op (HasOld c) all) (Stands n 0 os) cs
      (λ c w. stands_first n os c (λ e. w.0 (turn_name c.op n e))) h in
      let a = operands_back cs n 0 os (operands_old cs n 0 os here) in
      let b = changed_back_regions cs rs (each_map (λ (c : Change). OpsWhere c.op (HasOld c) all)
      (λ (c : Change). RegionsWhere c.op (HasOld c) rs) cs (λ c w. w.1.0) h) in
      let d = changed_back cs rest (each_map (λ (c : Change). OpsWhere c.op (HasOld c) all)
      (λ (c : Change). OpsWhere c.op (HasOld c) rest) cs (λ c w. w.1.1) h) in
      rw (a, b, d) refl

  changed_back_regions : (cs : List Change) (rs : Regions) → Each (λ (c : Change). RegionsWhere c.op (HasOld c) rs) cs
      → regions_changed (map turned cs) (regions_changed cs rs) ≡ rs
  changed_back_regions cs no_regions h = refl
  changed_back_regions cs (region args ops rest) h =
      let all = region args ops rest in
      let a = changed_back cs ops (each_map (λ (c : Change). RegionsWhere c.op (HasOld c) all)
      (λ (c : Change). OpsWhere c.op (HasOld c) ops) cs (λ c w. w.0) h) in
      let b = changed_back_regions cs rest (each_map (λ (c : Change). RegionsWhere c.op (HasOld c) all)
      (λ (c : Change). RegionsWhere c.op (HasOld c) rest) cs (λ c w. w.1) h) in
      rw (a, b) refl

-- the root as the one operation of a block
abbrev pub alone : Tree → Ops
alone t = cons t no_ops

pub operand_found : (o : Option Tree) (c : Change) → operand_of o c.operand ≡ Some c.old
    → (t : Tree) × ((o ≡ Some t) × HasOld c t)
operand_found None c h = absurd (cc)
operand_found (Some t) c h = (t, (refl, h))

pub find_alone : (n : OpName) (root t : Tree) → tree_find n root ≡ Some t → ops_find n (alone root) ≡ Some t
find_alone n root t h =
    elim (cases_Bool (eqb root.name.0 n.0)) [
      | inl e ↦ (let z = rw e at h in rw e z)
      | inr e ↦ (let z = rw e at h in rw (e, z) refl)
    ]

no_more : (ns : List OpName) → ns ++ [] ≡ ns
no_more [] = refl
no_more (n ∷ ns) = ap (λ (ms : List OpName). n ∷ ms) (no_more ns)

abbrev pub first_or : Tree → Ops → Tree
first_or t no_ops = t
first_or t (op n k ds os ts rs rest) = tree n k ds os ts rs

pub once_alone : (root : Tree) → Once (tree_names root) → Once (ops_names (alone root))
once_alone root o =
    subst Once (ap (λ (ns : List OpName). root.name ∷ ns) (sym (no_more (regions_names root.regions)))) o

-- the changes back lead back
pub tree_changed_back : (cs : List Change) (root : Tree)
    → Once (tree_names root) → Each (λ (c : Change). operand_of (tree_find c.op root) c.operand ≡ Some c.old) cs
    → tree_changed (map turned cs) (tree_changed cs root) ≡ root
tree_changed_back cs root o h =
    let w = each_map (λ (c : Change). operand_of (tree_find c.op root) c.operand
    ≡ Some c.old) (λ (c : Change). OpsWhere c.op (HasOld c) (alone root)) cs
    (λ c k. let f = operand_found (tree_find c.op root) c k in
    where_found c.op (HasOld c) f.0 (alone root) (once_alone root o) (find_alone c.op root f.0 f.1.0) f.1.1) h in
    let q = changed_back cs (alone root) w in
    ap (first_or root) q
