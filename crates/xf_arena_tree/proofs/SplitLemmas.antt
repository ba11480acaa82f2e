-- What is gathered from a tree, before and after an edit.
use Rattle.std.proofs.Common.{◌≡◌, ℕ, zero, suc, ◌≤◌, List, [], ◌++◌, length, sym, ◌∙◌, ap, subst}
use Rattle.std.proofs.Common.{arith, refl}
use Rattle.std.proofs.Common.{Bool, true, false, eqb, ◌||◌, inl, inr, append_assoc}
use Rattle.std.specs.Prelude.{Option, Some, None}
use Rattle.std.proofs.lemmas.Bool.{cases_Bool, or_parts, eqb-true}
use Rattle.xf_ir.proofs.Found.{first_cases}
use Rattle.xf_ir.specs.declared.name.OpName.{OpName}
use Rattle.xf_ir.specs.Tree.{Ops, no_ops, op, Regions, no_regions, region, Tree}
use Rattle.xf_ir.specs.Spots.{ops_insert, regions_insert}
use Rattle.xf_ir.specs.Walk.{ops_find, regions_find, first_of}
use Rattle.xf_arena_tree.specs.Names.{heads, ops_has, regions_has, OpsDistinct, RegionsDistinct}
use Rattle.xf_arena_tree.specs.Without.{OpsWhere, RegionsWhere, ops_without, regions_without}
use Rattle.xf_arena_tree.specs.Puts.{ops_put, regions_put, InRange}
use Rattle.xf_arena_tree.specs.Listed.{FromOp, FromBlock, ops_gathered, regions_gathered, tree_gathered, Splits}
use Rattle.xf_arena_tree.proofs.GrowLemmas.{ops_put_absent, regions_put_absent}
use Rattle.xf_arena_tree.proofs.WithoutLemmas.{ops_absent, regions_absent, parts3}

pub splits_behind : {A : Type 0} (ws xs ys zs : List A) → Splits xs ys zs → Splits xs (ws ++ ys) (ws ++ zs)
splits_behind ws xs ys zs s = record {
  pre = ws ++ s.pre;
  post = s.post;
  lacking = ap (λ l. ws ++ l) s.lacking ∙ sym (append_assoc ws s.pre s.post);
  having = ap (λ l. ws ++ l) s.having ∙ sym (append_assoc ws s.pre (xs ++ s.post));
}

pub splits_before : {A : Type 0} (ws xs ys zs : List A) → Splits xs ys zs → Splits xs (ys ++ ws) (zs ++ ws)
splits_before ws xs ys zs s = record {
  pre = s.pre;
  post = s.post ++ ws;
  lacking = ap (λ l. l ++ ws) s.lacking ∙ append_assoc s.pre s.post ws;
  having = ap (λ l. l ++ ws) s.having ∙ append_assoc s.pre (xs ++ s.post) ws
      ∙ ap (λ l. s.pre ++ l) (append_assoc xs s.post ws);
}

splits_here : {A : Type 0} (xs bs ys : List A) → Splits (xs ++ bs) ys (xs ++ (bs ++ ys))
splits_here xs bs ys = record { pre = []; post = ys; lacking = refl; having = sym (append_assoc xs bs ys) }

insert_splits : {A : Type 0} (g : FromOp A) (h : FromBlock A) (i : ℕ) (t : Tree) (ops : Ops) → i ≤ length (heads ops)
    → Splits (tree_gathered g h t) (ops_gathered g h ops) (ops_gathered g h (ops_insert i t ops))
insert_splits g h zero t ops l =
    splits_here (g t.name t.operands t.results) (regions_gathered g h t.name 0 t.regions) (ops_gathered g h ops)
insert_splits g h (suc i) t no_ops l = absurd (omega arith)
insert_splits g h (suc i) t (op n k ds os ts rs rest) l =
    splits_behind (g n os ts) _ _ _
    (splits_behind (regions_gathered g h n 0 rs) _ _ _ (insert_splits g h i t rest (omega arith)))

insert_regions_splits : {A : Type 0} (g : FromOp A) (h : FromBlock A) (r i : ℕ) (t : Tree) (n : OpName) (j : ℕ)
    (rs : Regions) → InRange r i rs
    → Splits (tree_gathered g h t) (regions_gathered g h n j rs) (regions_gathered g h n j (regions_insert r i t rs))
insert_regions_splits g h r i t n j no_regions l = absurd l
insert_regions_splits g h zero i t n j (region args ops rest) l =
    splits_behind (h n j args) _ _ _
    (splits_before (regions_gathered g h n (suc j) rest) _ _ _ (insert_splits g h i t ops l))
insert_regions_splits g h (suc r) i t n j (region args ops rest) l =
    splits_behind (h n j args) _ _ _
    (splits_behind (ops_gathered g h ops) _ _ _ (insert_regions_splits g h r i t n (suc j) rest l))

mutual
  pub put_splits : {A : Type 0} (g : FromOp A) (h : FromBlock A) (p : OpName) (r i : ℕ) (t : Tree) (ops : Ops)
      → OpsDistinct ops → OpsWhere p (InRange r i) ops → ops_has p ops ≡ true
      → Splits (tree_gathered g h t) (ops_gathered g h ops) (ops_gathered g h (ops_put p r i t ops))
  put_splits g h p r i t no_ops d w q = cc
  put_splits g h p r i t (op n k ds os ts rs rest) d w q =
      elim (cases_Bool (eqb n.0 p.0)) [
        | inl e ↦ rw e (
            splits_behind (g n os ts) _ _ _
            (splits_before (ops_gathered g h rest) _ _ _ (insert_regions_splits g h r i t n 0 rs (w.0 e))))
        | inr e ↦ elim (cases_Bool (regions_has p rs)) [
          | inl a ↦ (
              let z = ops_put_absent p r i t rest (d.1.1.0 p a) in
              rw (e, z) (
              splits_behind (g n os ts) _ _ _
              (splits_before (ops_gathered g h rest) _ _ _ (regions_put_splits g h p r i t n 0 rs d.1.1.1.0 w.1.0 a))))
          | inr a ↦ (
              let b : ops_has p rest ≡ true = rw (e, a) at q in
              let z = regions_put_absent p r i t rs a in
              rw (e, z) (
              splits_behind (g n os ts) _ _ _
              (splits_behind (regions_gathered g h n 0 rs) _ _ _ (put_splits g h p r i t rest d.1.1.1.1 w.1.1 b))))
        ]
      ]

  pub regions_put_splits : {A : Type 0} (g : FromOp A) (h : FromBlock A) (p : OpName) (r i : ℕ) (t : Tree) (n : OpName)
      (j : ℕ) (rs : Regions) → RegionsDistinct rs → RegionsWhere p (InRange r i) rs → regions_has p rs ≡ true
      → Splits (tree_gathered g h t) (regions_gathered g h n j rs) (regions_gathered g h n j (regions_put p r i t rs))
  regions_put_splits g h p r i t n j no_regions d w q = cc
  regions_put_splits g h p r i t n j (region args ops rest) d w q =
      elim (cases_Bool (ops_has p ops)) [
        | inl a ↦ (
            let z = regions_put_absent p r i t rest (d.0 p a) in
            rw z (
            splits_behind (h n j args) _ _ _
            (splits_before (regions_gathered g h n (suc j) rest) _ _ _ (put_splits g h p r i t ops d.1.0 w.0 a))))
        | inr a ↦ (
            let b : regions_has p rest ≡ true = rw a at q in
            let z = ops_put_absent p r i t ops a in
            rw z (
            splits_behind (h n j args) _ _ _
            (splits_behind (ops_gathered g h ops) _ _ _ (regions_put_splits g h p r i t n (suc j) rest d.1.1 w.1 b))))
      ]

found_here : (n : OpName) (t x : Tree) → Some t ≡ Some x → t ≡ x
found_here n t x e = cc

mutual
  pub ops_unfound : (x : OpName) (ops : Ops) → ops_has x ops ≡ false → ops_find x ops ≡ None
  ops_unfound x no_ops h = refl
  ops_unfound x (op n k ds os ts rs rest) h =
      let p = parts3 (eqb n.0 x.0) (regions_has x rs) (ops_has x rest) h in
      rw (p.0, regions_unfound x rs p.1.0, ops_unfound x rest p.1.1) refl

  pub regions_unfound : (x : OpName) (rs : Regions) → regions_has x rs ≡ false → regions_find x rs ≡ None
  regions_unfound x no_regions h = refl
  regions_unfound x (region args ops rest) h =
      let p = or_parts (ops_has x ops) (regions_has x rest) h in
      rw (ops_unfound x ops p.0, regions_unfound x rest p.1) refl

part_found : (a b : Bool) (fa fb : Option Tree) (x : Tree) → (a ≡ false → fa ≡ None) → (fb ≡ Some x → b ≡ true)
    → first_of fa fb ≡ Some x → (a || b) ≡ true
part_found true b fa fb x f g e = refl
part_found false b fa fb x f g e = g (rw (f refl) at e)

mutual
  pub find_has : (o : OpName) (ops : Ops) (x : Tree) → ops_find o ops ≡ Some x → ops_has o ops ≡ true
  find_has o no_ops x e = cc
  find_has o (op n k ds os ts rs rest) x e =
      elim (cases_Bool (eqb n.0 o.0)) [
        | inl t ↦ rw t refl
        | inr f ↦ rw f (
            part_found (regions_has o rs) (ops_has o rest) (regions_find o rs) (ops_find o rest) x
            (regions_unfound o rs) (λ q. find_has o rest x q) (rw f at e))
      ]

  pub find_has_regions : (o : OpName) (rs : Regions) (x : Tree) → regions_find o rs ≡ Some x → regions_has o rs ≡ true
  find_has_regions o no_regions x e = cc
  find_has_regions o (region args ops rest) x e =
      part_found (ops_has o ops) (regions_has o rest) (ops_find o ops) (regions_find o rest) x
      (ops_unfound o ops) (λ q. find_has_regions o rest x q) e

same_op : (n o : OpName) → eqb n.0 o.0 ≡ true → n ≡ o
same_op n o e = let mk : ℕ → OpName = λ x. record { 0 = x } in ap mk (eqb-true n.0 o.0 e)

not_both : (f g : OpName → Bool) (o : OpName) → ((x : OpName) → f x ≡ true → g x ≡ false) → g o ≡ true → f o ≡ false
not_both f g o d h = elim (cases_Bool (f o)) [
  | inl a ↦ (let z : true ≡ false = sym h ∙ d o a in cc)
  | inr a ↦ a
]

mutual
  pub without_splits : {A : Type 0} (g : FromOp A) (h : FromBlock A) (o : OpName) (ops : Ops) (x : Tree)
      → OpsDistinct ops → ops_find o ops ≡ Some x
      → Splits (tree_gathered g h x) (ops_gathered g h (ops_without o ops)) (ops_gathered g h ops)
  without_splits g h o no_ops x d e = cc
  without_splits g h o (op n k ds os ts rs rest) x d e =
      elim (cases_Bool (eqb n.0 o.0)) [
        | inl t ↦ (
            let here : Tree =
            record { name = n; kind = k; attrs = ds; operands = os; results = ts; regions = rs }
            in
            let q : here ≡ x = found_here n here x (rw t at e) in
            let z = ops_absent o rest (rw (same_op n o t) at d.1.0) in
            rw (t, z) (
            subst (λ (y : Tree). Splits (tree_gathered g h y) (ops_gathered g h rest)
            (g n os ts ++ (regions_gathered g h n 0 rs ++ ops_gathered g h rest))) q
            (splits_here (g n os ts) (regions_gathered g h n 0 rs) (ops_gathered g h rest))))
        | inr f ↦ (
            let e2 : first_of (regions_find o rs) (ops_find o rest) ≡ Some x = rw f at e in
            elim (first_cases (regions_find o rs) (ops_find o rest) x e2) [
              | inl a ↦ (
                  let z = ops_absent o rest (d.1.1.0 o (find_has_regions o rs x a)) in
                  rw (f, z) (
                  splits_behind (g n os ts) _ _ _
                  (splits_before (ops_gathered g h rest) _ _ _ (regions_without_splits g h o n 0 rs x d.1.1.1.0 a))))
              | inr a ↦ (
                  let b = find_has o rest x a.1 in
                  let z = regions_absent o rs (not_both (λ y. regions_has y rs) (λ y. ops_has y rest) o d.1.1.0 b) in
                  rw (f, z) (
                  splits_behind (g n os ts) _ _ _
                  (splits_behind (regions_gathered g h n 0 rs) _ _ _ (without_splits g h o rest x d.1.1.1.1 a.1))))
            ])
      ]

  pub regions_without_splits : {A : Type 0} (g : FromOp A) (h : FromBlock A) (o n : OpName) (j : ℕ) (rs : Regions)
      (x : Tree) → RegionsDistinct rs → regions_find o rs ≡ Some x
      → Splits (tree_gathered g h x) (regions_gathered g h n j (regions_without o rs)) (regions_gathered g h n j rs)
  regions_without_splits g h o n j no_regions x d e = cc
  regions_without_splits g h o n j (region args ops rest) x d e =
      elim (first_cases (ops_find o ops) (regions_find o rest) x e) [
        | inl a ↦ (
            let z = regions_absent o rest (d.0 o (find_has o ops x a)) in
            rw z (
            splits_behind (h n j args) _ _ _
            (splits_before (regions_gathered g h n (suc j) rest) _ _ _ (without_splits g h o ops x d.1.0 a))))
        | inr a ↦ (
            let b = find_has_regions o rest x a.1 in
            let z = ops_absent o ops (not_both (λ y. ops_has y ops) (λ y. regions_has y rest) o d.0 b) in
            rw z (
            splits_behind (h n j args) _ _ _
            (splits_behind (ops_gathered g h ops) _ _ _ (regions_without_splits g h o n (suc j) rest x d.1.1 a.1))))
      ]
