-- What depends on the out, gathered in a set.
use Rattle.std.proofs.Common.{◌≡◌, ℕ, zero, suc, ◌+◌, ◌-◌, ◌^◌, ◌<◌, ◌≤◌, ◌&&◌, ◌||◌, List, [], ◌∷◌, ◌++◌, length}
use Rattle.std.proofs.Common.{get_or, drop, Bool, true, false, not, inl, inr, refl, sym, ap, ◌∙◌, zero-add, add-zero}
use Rattle.std.proofs.Common.{add-one, drop-cons, arith}
use Rattle.std.specs.Prelude.{◌==◌, min}
use Rattle.std.specs.Cmp.{nat_cmp_total}
use Rattle.std.specs.FinSet as set
use Rattle.std.specs.Ordering.{nat_cmp}
use Rattle.std.proofs.lemmas.List.{drop_all}
use Rattle.std.proofs.lemmas.Bool.{cases_Bool, eqb-true}
use Rattle.xf_ir.specs.declared.name.OpName.{OpName}
use Rattle.xf_ir.specs.declared.name.ValueName.{ValueName}
use Rattle.xf_ir.specs.declared.name.ValueName.TheVariants.{Result, Arg, Free}
use Rattle.xf_ir.specs.Tree.{Ops, no_ops, op, Tree, Body}
use Rattle.xf_ir.specs.View.{ops_of, regions_of}
use Rattle.xf_ir.specs.Lists.{same_name, is_among, some}
use Rattle.xf_ir.specs.Uses.{same_value, use_count, ops_operands, regions_operands, tree_operands}
use Rattle.xf_ir.specs.RuleLinalg.{only_value, yielded, depends, dependents, all_dependents, is_apart, joins_out}
use Rattle.xf_rules_shape.specs.Dependents.{Names, depends_on, with_dependents, all_with, joins_apart}
use Rattle.xf_rules_shape.proofs.DimSets.{flipped, inserted}

-- ---- the set has the names

same_some : {A : Type 0} (p q : A → Bool) (xs : List A) → ((x : A) → p x ≡ q x) → some p xs ≡ some q xs
same_some p q [] h = refl
same_some p q (x ∷ xs) h = ap (λ b. b || some p xs) (h x) ∙ ap (λ b. q x || b) (same_some p q xs h)

-- a set has the names of a list
abbrev Same : Names → List OpName → Type 0
Same s ns = (o : OpName) → set.contains s o.0 ≡ is_among o ns

same_depends : (out : ValueName) (s : Names) (ns : List OpName) → Same s ns → (v : ValueName)
    → depends_on out s v ≡ depends out ns v
same_depends out s ns h (Result o num) = ap (λ b. same_value out (Result o num) || b) (h o)
same_depends out s ns h (Arg o r num) = refl
same_depends out s ns h (Free num) = refl

same_insert : (s : Names) (ns : List OpName) (n : OpName) → Same s ns → Same (set.insert s n.0) (n ∷ ns)
same_insert s ns n h o =
    inserted s n.0 o.0 ∙ ap (λ b. b || set.contains s o.0) (flipped o.0 n.0) ∙ ap (λ b. same_name n o || b) (h o)

same_dependents : (out : ValueName) (ops : Ops) (s : Names) (ns : List OpName) → Same s ns
    → Same (with_dependents out ops s) (dependents out ops ns)
same_dependents out no_ops s ns h = h
same_dependents out (op n k ds os ts rs rest) s ns h =
    let e = same_some (depends_on out s) (depends out ns) os (same_depends out s ns h) in
    elim (cases_Bool (some (depends out ns) os)) [
      | inl t ↦ rw (e, t) (same_dependents out rest (set.insert s n.0) (n ∷ ns) (same_insert s ns n h))
      | inr f ↦ rw (e, f) (same_dependents out rest s ns h)
    ]

same_all : (out : ValueName) (ops body : Ops) (s : Names) (ns : List OpName) → Same s ns
    → Same (all_with out ops body s) (all_dependents out ops body ns)
same_all out no_ops body s ns h = h
same_all out (op n k ds os ts rs rest) body s ns h =
    same_all out rest body (with_dependents out body s) (dependents out body ns) (same_dependents out body s ns h)

same_empty : Same set.empty []
same_empty o = set.contains-empty nat_cmp o.0

same_apart : (out : ValueName) (body : Ops) (v : ValueName)
    → not (depends_on out (all_with out body body set.empty) v) ≡ is_apart out body v
same_apart out body v = ap not (same_depends out (all_with out body body set.empty) (all_dependents out body body [])
    (same_all out body body set.empty [] same_empty) v)

pub joins_by_set : (out : ValueName) (body : Ops) (vs : List ValueName)
    → joins_apart out (all_with out body body set.empty) vs ≡ joins_out out body vs
joins_by_set out body [] = refl
joins_by_set out body (a ∷ []) = refl
joins_by_set out body (a ∷ (b ∷ [])) =
    ap (λ t. (same_value a out && t)
    || (same_value b out && not (depends_on out (all_with out body body set.empty) a))) (same_apart out body b)
    ∙ ap (λ t. (same_value a out && is_apart out body b) || (same_value b out && t)) (same_apart out body a)
joins_by_set out body (a ∷ (b ∷ (c ∷ vs))) = refl

-- ---- a pass that adds nothing is the last

pub no_more : (out : ValueName) (ops body : Ops) (s : Names) → with_dependents out body s ≡ s
    → all_with out ops body s ≡ s
no_more out no_ops body s e = refl
no_more out (op n k ds os ts rs rest) body s e = ap (all_with out rest body) e ∙ no_more out rest body s e

-- a name that is there changes nothing
pub inserted_again : (s : Names) (n : ℕ) → set.contains s n ≡ true → set.insert s n ≡ s
inserted_again s n h =
    set.same_set nat_cmp_total set.nat_cmp-IsAntisymmetric _ _ (λ q. inserted s n q ∙ elim (cases_Bool (q == n)) [
      | inl t ↦ (let e : q ≡ n = eqb-true q n t in rw t (sym h ∙ ap (set.contains s) (sym e)))
      | inr f ↦ rw f refl
    ])

-- a pass that adds nothing comes to all
pub stopped : (out : ValueName) (rest body : Ops) (s next whole : Names) (grows : Bool)
    → next ≡ with_dependents out body s → (grows ≡ false → next ≡ s) → grows ≡ false → all_with out rest body s ≡ whole
    → next ≡ whole
stopped out rest body s next whole grows p f g w = (let e = f g in e ∙ sym (no_more out rest body s (sym p ∙ e)) ∙ w)

-- ---- the yielded value

yielded_at : (ts : List Tree) (t : Tree) (k : ℕ) → length ts ≡ suc k → t ≡ get_or ts k t
    → only_value t.operands ≡ yielded (ops_of ts)
yielded_at [] t k e g = absurd (cc)
yielded_at (x ∷ []) t zero e g = ap (λ (z : Tree). only_value z.operands) g
yielded_at (x ∷ []) t (suc k) e g = absurd (omega arith)
yielded_at (x ∷ (y ∷ ts)) t zero e g = absurd (omega arith)
yielded_at (x ∷ (y ∷ ts)) t (suc k) e g = yielded_at (y ∷ ts) t k (omega arith) g

pub yielded_last : (ts : List Tree) (t : Tree) → 1 ≤ length ts → t ≡ get_or ts (length ts - 1) t
    → only_value t.operands ≡ yielded (ops_of ts)
yielded_last ts t h g = yielded_at ts t (length ts - 1) (omega arith) g

-- ---- uses

pub uses_append : (v : ValueName) (xs ys : List ValueName) → use_count v (xs ++ ys) ≡ use_count v xs + use_count v ys
uses_append v [] ys = sym (zero-add (use_count v ys))
uses_append v (x ∷ xs) ys =
    let a = uses_append v xs ys in
    elim (cases_Bool (same_value x v)) [
      | inl h ↦ rw h (omega arith)
      | inr h ↦ rw h a
    ]

pub uses_of_cons : (v : ValueName) (t : Tree) (ts : List Tree) → use_count v (ops_operands (ops_of (t ∷ ts)))
    ≡ use_count v (tree_operands t) + use_count v (ops_operands (ops_of ts))
uses_of_cons v t ts =
    let a = uses_append v t.operands (regions_operands t.regions ++ ops_operands (ops_of ts)) in
    let b = uses_append v (regions_operands t.regions) (ops_operands (ops_of ts)) in
    let d = uses_append v t.operands (regions_operands t.regions) in
    omega (arith, a, b, d)

pub uses_of_block : (v : ValueName) (b : Body) (bs : List Body) → use_count v (regions_operands (regions_of (b ∷ bs)))
    ≡ use_count v (ops_operands b.ops) + use_count v (regions_operands (regions_of bs))
uses_of_block v b bs = uses_append v (ops_operands b.ops) (regions_operands (regions_of bs))

pub all_counted : (v : ValueName) (vs : List ValueName) (i count whole : ℕ) → length vs ≤ i → count ≤ 2 ^ 64 - 1
    → min (count + use_count v (drop i vs)) (2 ^ 64 - 1) ≡ whole → count ≡ whole
all_counted v vs i count whole h k w =
    (let e : count ≡ min (count + use_count v (drop i vs)) (2 ^ 64 - 1) = rw (drop_all i vs h) (omega arith) in e ∙ w)

-- ---- one operation or one block more, where a count stands still at its end

still : (count next u x y rest whole m : ℕ) → next ≡ min (count + u) m → x ≡ u + y → min (count + (x + rest)) m ≡ whole
    → min (next + (y + rest)) m ≡ whole
still count next u x y rest whole m p e w = omega arith

uses_at : (v : ValueName) (ts : List Tree) (i : ℕ) (t : Tree)
    → i < length ts → t ≡ get_or ts i t → use_count v (ops_operands (ops_of (drop i ts)))
    ≡ use_count v (tree_operands t) + use_count v (ops_operands (ops_of (drop (i + 1) ts)))
uses_at v ts i t h g =
    let d : drop i ts ≡ get_or ts i t ∷ drop (i + 1) ts = rw (add-one, drop-cons ts i t) refl in
    ap (λ (zs : List Tree). use_count v (ops_operands (ops_of zs))) (d ∙ ap (λ (z : Tree). z ∷ drop (i + 1) ts) (sym g))
    ∙ uses_of_cons v t (drop (i + 1) ts)

pub op_step : (v : ValueName) (ts : List Tree) (i : ℕ) (t : Tree) (count next rest whole : ℕ) → i < length ts
    → t ≡ get_or ts i t → next ≡ min (count + use_count v (tree_operands t)) (2 ^ 64 - 1) →
    min (count + (use_count v (ops_operands (ops_of (drop i ts))) + rest)) (2 ^ 64 - 1) ≡ whole
    → min (next + (use_count v (ops_operands (ops_of (drop (i + 1) ts))) + rest)) (2 ^ 64 - 1) ≡ whole
op_step v ts i t count next rest whole h g p w =
    still count next (use_count v (tree_operands t)) (use_count v (ops_operands (ops_of (drop i ts))))
    (use_count v (ops_operands (ops_of (drop (i + 1) ts)))) rest whole (2 ^ 64 - 1) p (uses_at v ts i t h g) w

pub last_step : (v : ValueName) (ts : List Tree) (i : ℕ) (t : Tree) (count next whole : ℕ) → i < length ts
    → t ≡ get_or ts i t → next ≡ min (count + use_count v (tree_operands t)) (2 ^ 64 - 1) →
    min (count + use_count v (ops_operands (ops_of (drop i ts)))) (2 ^ 64 - 1) ≡ whole
    → min (next + use_count v (ops_operands (ops_of (drop (i + 1) ts)))) (2 ^ 64 - 1) ≡ whole
last_step v ts i t count next whole h g p w =
    let x = use_count v (ops_operands (ops_of (drop i ts))) in
    let y = use_count v (ops_operands (ops_of (drop (i + 1) ts))) in
    let a : min (next + (y + 0)) (2 ^ 64 - 1) ≡ whole =
    op_step v ts i t count next 0 whole h g p (ap (λ k. min (count + k) (2 ^ 64 - 1)) (add-zero x) ∙ w) in
    ap (λ k. min (next + k) (2 ^ 64 - 1)) (sym (add-zero y)) ∙ a

pub block_step : (v : ValueName) (bs : List Body) (i : ℕ) (b : Body) (ops : Ops) (count whole : ℕ) → i < length bs
    → b ≡ get_or bs i b → ops ≡ b.ops →
    min (count + use_count v (regions_operands (regions_of (drop i bs)))) (2 ^ 64 - 1) ≡ whole
    → min (count + (use_count v (ops_operands ops) + use_count v (regions_operands (regions_of (drop (i + 1) bs)))))
    (2 ^ 64 - 1) ≡ whole
block_step v bs i b ops count whole h g e w =
    let d : drop i bs ≡ get_or bs i b ∷ drop (i + 1) bs = rw (add-one, drop-cons bs i b) refl in
    let a = ap (λ (zs : List Body). use_count v (regions_operands (regions_of zs)))
    (d ∙ ap (λ (z : Body). z ∷ drop (i + 1) bs) (sym g)) ∙ uses_of_block v b (drop (i + 1) bs) in
    ap (λ (z : Ops). min (count + (use_count v (ops_operands z)
    + use_count v (regions_operands (regions_of (drop (i + 1) bs))))) (2 ^ 64 - 1)) e
    ∙ ap (λ k. min (count + k) (2 ^ 64 - 1)) (sym a) ∙ w
