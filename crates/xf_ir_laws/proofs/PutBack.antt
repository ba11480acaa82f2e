-- What is put back where it was erased, and erased where it was put.
use Rattle.std.proofs.Common.{◌≡◌, ◌⊎◌, ℕ, zero, suc, ◌+◌, List, [], ◌∷◌, ◌++◌, Option, Some, None, true, false, eqb}
use Rattle.std.proofs.Common.{refl, sym, ap, ◌∙◌, subst, inl, inr, arith}
use Rattle.std.proofs.lemmas.Bool.{cases_Bool, or_parts}
use Rattle.xf_ir.specs.declared.name.OpName.{OpName}
use Rattle.xf_ir.specs.declared.spot.Spot.{Spot}
use Rattle.xf_ir.specs.declared.spot.Located.{Located}
use Rattle.xf_ir.specs.Tree.{Ops, no_ops, op, Regions, no_regions, region, Tree, cons}
use Rattle.xf_ir.specs.Walk.{ops_names, regions_names, tree_names, first_of}
use Rattle.xf_ir.specs.Lists.{same_name, is_among, Once}
use Rattle.xf_ir.specs.Edits.{ops_at, regions_at, tail, tree_erased}
use Rattle.xf_ir.specs.Spots.{ops_locate, regions_locate, tree_locate, ops_insert, regions_insert, ops_put, regions_put}
use Rattle.xf_ir.specs.Spots.{tree_put}
use Rattle.xf_ir.proofs.Lists.{own_name, not_left, not_right, once_left, once_right, once_apart, absent_before}
use Rattle.xf_ir.proofs.Lists.{apart_names, among_left, among_right}
use Rattle.xf_ir.proofs.Found.{tree, first_cases}

-- ---- a name that is not there

mutual
  pub erase_lacking : (ops : Ops) (n : OpName) → is_among n (ops_names ops) ≡ false → ops_at n tail ops ≡ ops
  erase_lacking no_ops n h = refl
  erase_lacking (op m k ds os ts rs rest) n h =
      let p = or_parts (same_name m n) (is_among n (regions_names rs ++ ops_names rest)) h in
      let a = erase_lacking_regions rs n (not_left n (regions_names rs) (ops_names rest) p.1) in
      let b = erase_lacking rest n (not_right n (regions_names rs) (ops_names rest) p.1) in
      rw p.0 (rw (a, b) refl)

  pub erase_lacking_regions : (rs : Regions) (n : OpName) → is_among n (regions_names rs) ≡ false
      → regions_at n tail rs ≡ rs
  erase_lacking_regions no_regions n h = refl
  erase_lacking_regions (region args ops rest) n h =
      let a = erase_lacking ops n (not_left n (ops_names ops) (regions_names rest) h) in
      let b = erase_lacking_regions rest n (not_right n (ops_names ops) (regions_names rest) h) in
      rw (a, b) refl

mutual
  pub put_lacking : (ops : Ops) (s : Spot) (t : Tree) → is_among s.parent (ops_names ops) ≡ false
      → ops_put s t ops ≡ ops
  put_lacking no_ops s t h = refl
  put_lacking (op m k ds os ts rs rest) s t h =
      let p = or_parts (same_name m s.parent) (is_among s.parent (regions_names rs ++ ops_names rest)) h in
      let a = put_lacking_regions rs s t (not_left s.parent (regions_names rs) (ops_names rest) p.1) in
      let b = put_lacking rest s t (not_right s.parent (regions_names rs) (ops_names rest) p.1) in
      rw p.0 (rw (a, b) refl)

  pub put_lacking_regions : (rs : Regions) (s : Spot) (t : Tree) → is_among s.parent (regions_names rs) ≡ false
      → regions_put s t rs ≡ rs
  put_lacking_regions no_regions s t h = refl
  put_lacking_regions (region args ops rest) s t h =
      let a = put_lacking ops s t (not_left s.parent (ops_names ops) (regions_names rest) h) in
      let b = put_lacking_regions rest s t (not_right s.parent (ops_names ops) (regions_names rest) h) in
      rw (a, b) refl

-- ---- erased where it was put

erase_inserted : (i : ℕ) (t : Tree) (ops : Ops) → is_among t.name (ops_names ops) ≡ false
    → ops_at t.name tail (ops_insert i t ops) ≡ ops
erase_inserted zero t ops h = (let o = own_name t.name in rw o refl)
erase_inserted (suc i) t no_ops h = refl
erase_inserted (suc i) t (op m k ds os ts rs rest) h =
    let p = or_parts (same_name m t.name) (is_among t.name (regions_names rs ++ ops_names rest)) h in
    let a = erase_lacking_regions rs t.name (not_left t.name (regions_names rs) (ops_names rest) p.1) in
    let b = erase_inserted i t rest (not_right t.name (regions_names rs) (ops_names rest) p.1) in
    rw p.0 (rw (a, b) refl)

erase_inserted_regions : (r i : ℕ) (t : Tree) (rs : Regions) → is_among t.name (regions_names rs) ≡ false
    → regions_at t.name tail (regions_insert r i t rs) ≡ rs
erase_inserted_regions r i t no_regions h = refl
erase_inserted_regions zero i t (region args ops rest) h =
    let a = erase_inserted i t ops (not_left t.name (ops_names ops) (regions_names rest) h) in
    let b = erase_lacking_regions rest t.name (not_right t.name (ops_names ops) (regions_names rest) h) in
    rw (a, b) refl
erase_inserted_regions (suc r) i t (region args ops rest) h =
    let a = erase_lacking ops t.name (not_left t.name (ops_names ops) (regions_names rest) h) in
    let b = erase_inserted_regions r i t rest (not_right t.name (ops_names ops) (regions_names rest) h) in
    rw (a, b) refl

mutual
  erase_put : (s : Spot) (t : Tree) (ops : Ops) → is_among t.name (ops_names ops) ≡ false
      → ops_at t.name tail (ops_put s t ops) ≡ ops
  erase_put s t no_ops h = refl
  erase_put s t (op m k ds os ts rs rest) h =
      let p = or_parts (same_name m t.name) (is_among t.name (regions_names rs ++ ops_names rest)) h in
      let c = not_left t.name (regions_names rs) (ops_names rest) p.1 in
      let b = erase_put s t rest (not_right t.name (regions_names rs) (ops_names rest) p.1) in
      elim (cases_Bool (eqb m.0 s.parent.0)) [
        | inl e ↦ (let a = erase_inserted_regions s.region s.at t rs c in rw p.0 (rw e (rw (a, b) refl)))
        | inr e ↦ (let a = erase_put_regions s t rs c in rw p.0 (rw e (rw (a, b) refl)))
      ]

  erase_put_regions : (s : Spot) (t : Tree) (rs : Regions) → is_among t.name (regions_names rs) ≡ false
      → regions_at t.name tail (regions_put s t rs) ≡ rs
  erase_put_regions s t no_regions h = refl
  erase_put_regions s t (region args ops rest) h =
      let a = erase_put s t ops (not_left t.name (ops_names ops) (regions_names rest) h) in
      let b = erase_put_regions s t rest (not_right t.name (ops_names ops) (regions_names rest) h) in
      rw (a, b) refl

-- a tree of a new name is put and erased
pub put_erased : (s : Spot) (t root : Tree) → is_among t.name (tree_names root) ≡ false
    → tree_erased t.name (tree_put s t root) ≡ root
put_erased s t root h =
    let c = (or_parts (same_name root.name t.name) (is_among t.name (regions_names root.regions)) h).1 in
    elim (cases_Bool (eqb root.name.0 s.parent.0)) [
      | inl e ↦ (let a = erase_inserted_regions s.region s.at t root.regions c in rw e (rw a refl))
      | inr e ↦ (let a = erase_put_regions s t root.regions c in rw e (rw a refl))
    ]

-- ---- put back where it was erased

record OpsHere (n p : OpName) (r i : ℕ) (x : Located) (ops : Ops) : Type 0 where
  j : ℕ
  spot : x.spot ≡ record { parent = p; region = r; at = i + j }
  back : ops_insert j x.tree (ops_at n tail ops) ≡ ops
  has : is_among n (ops_names ops) ≡ true

record OpsDeeper (n : OpName) (x : Located) (ops : Ops) : Type 0 where
  parent : is_among x.spot.parent (ops_names ops) ≡ true
  back : ops_put x.spot x.tree (ops_at n tail ops) ≡ ops
  has : is_among n (ops_names ops) ≡ true

record RegionsHere (n p : OpName) (r : ℕ) (x : Located) (rs : Regions) : Type 0 where
  q : ℕ
  parent : x.spot.parent ≡ p
  number : x.spot.region ≡ r + q
  back : regions_insert q x.spot.at x.tree (regions_at n tail rs) ≡ rs
  has : is_among n (regions_names rs) ≡ true

record RegionsDeeper (n : OpName) (x : Located) (rs : Regions) : Type 0 where
  parent : is_among x.spot.parent (regions_names rs) ≡ true
  back : regions_put x.spot x.tree (regions_at n tail rs) ≡ rs
  has : is_among n (regions_names rs) ≡ true

pub among_own : (m : OpName) (xs : List OpName) → is_among m (m ∷ xs) ≡ true
among_own m xs = (let o = own_name m in rw o refl)

pub among_behind : (n m : OpName) (xs : List OpName) → is_among n xs ≡ true → is_among n (m ∷ xs) ≡ true
among_behind n m xs h = elim (cases_Bool (same_name m n)) [ inl t ↦ rw t refl | inr f ↦ rw (f, h) refl ]

mutual
  ops_back : (ops : Ops) (n p : OpName) (r i : ℕ) (x : Located) → Once (ops_names ops) → ops_locate n p r i ops ≡ Some x
      → OpsHere n p r i x ops ⊎ OpsDeeper n x ops
  ops_back no_ops n p r i x d h = absurd (cc)
  ops_back (op m k ds os ts rs rest) n p r i x d h =
      let ms = regions_names rs in
      let ns = ops_names rest in
      elim (cases_Bool (eqb m.0 n.0)) [
        | inl e ↦ inl (
            let h' = rw e at h in
            let t : Tree = tree m k ds os ts rs in
            let s : Spot = record { parent = p; region = r; at = i } in
            let here : Located = record { spot = s; tree = t } in
            let q : x ≡ here = cc in
            let z : i ≡ i + 0 = omega arith in
            record {
              j = 0;
              spot = ap (λ (y : Located). y.spot) q
                  ∙ ap (λ a. let w : Spot = record { parent = p; region = r; at = a } in w) z;
              back = rw e (ap (λ (y : Located). cons y.tree rest) q);
              has = rw e refl;
            })
        | inr e ↦ elim (first_cases (regions_locate n m 0 rs) (ops_locate n p r (i + 1) rest) x (rw e at h)) [
          | inl g ↦ inr (elim (regions_back rs n m 0 x (once_left ms ns d.1) g) [
            | inl f ↦ (
                let l = erase_lacking rest n (once_apart n ms ns d.1 f.has) in
                let z : x.spot.region ≡ f.q = f.number ∙ omega arith in
                let o = subst (λ (q : OpName). eqb m.0 q.0 ≡ true) (sym f.parent) (own_name m) in
                let u = put_lacking rest x.spot x.tree
                (subst (λ q. is_among q ns ≡ false) (sym f.parent) (not_right m ms ns d.0)) in
                record {
                  parent = subst (λ q. is_among q (m ∷ (ms ++ ns)) ≡ true) (sym f.parent) (among_own m (ms ++ ns));
                  back = rw e (rw (l, u, o, z, f.back) refl);
                  has = among_behind n m (ms ++ ns) (among_left n ms ns f.has);
                })
            | inr f ↦ (
                let l = erase_lacking rest n (once_apart n ms ns d.1 f.has) in
                let o = apart_names x.spot.parent m ms f.parent (not_left m ms ns d.0) in
                let u = put_lacking rest x.spot x.tree (once_apart x.spot.parent ms ns d.1 f.parent) in
                record {
                  parent = among_behind x.spot.parent m (ms ++ ns) (among_left x.spot.parent ms ns f.parent);
                  back = rw e (rw (l, u, o, f.back) refl);
                  has = among_behind n m (ms ++ ns) (among_left n ms ns f.has);
                })
          ])
          | inr g ↦ elim (ops_back rest n p r (i + 1) x (once_right ms ns d.1) g.1) [
            | inl f ↦ inl (
                let l = erase_lacking_regions rs n (absent_before n ms ns d.1 f.has) in
                let z : i + 1 + f.j ≡ i + suc f.j = omega arith in
                record {
                  j = suc f.j;
                  spot = f.spot ∙ ap (λ a. let w : Spot = record { parent = p; region = r; at = a } in w) z;
                  back = rw e (rw (l, f.back) refl);
                  has = among_behind n m (ms ++ ns) (among_right n ms ns f.has);
                })
            | inr f ↦ inr (
                let l = erase_lacking_regions rs n (absent_before n ms ns d.1 f.has) in
                let o = apart_names x.spot.parent m ns f.parent (not_right m ms ns d.0) in
                let u = put_lacking_regions rs x.spot x.tree (absent_before x.spot.parent ms ns d.1 f.parent) in
                record {
                  parent = among_behind x.spot.parent m (ms ++ ns) (among_right x.spot.parent ms ns f.parent);
                  back = rw e (rw (o, l, u, f.back) refl);
                  has = among_behind n m (ms ++ ns) (among_right n ms ns f.has);
                })
          ]
        ]
      ]

  regions_back : (rs : Regions) (n p : OpName) (r : ℕ) (x : Located) → Once (regions_names rs)
      → regions_locate n p r rs ≡ Some x → RegionsHere n p r x rs ⊎ RegionsDeeper n x rs
  regions_back no_regions n p r x d h = absurd (cc)
  regions_back (region args ops rest) n p r x d h =
      let ms = ops_names ops in
      let ns = regions_names rest in
      elim (first_cases (ops_locate n p r 0 ops) (regions_locate n p (r + 1) rest) x h) [
        | inl g ↦ elim (ops_back ops n p r 0 x (once_left ms ns d) g) [
          | inl f ↦ inl (
              let l = erase_lacking_regions rest n (once_apart n ms ns d f.has) in
              let z : x.spot.at ≡ f.j = ap (λ (y : Spot). y.at) f.spot ∙ omega arith in
              record {
                q = 0;
                parent = ap (λ (y : Spot). y.parent) f.spot;
                number = ap (λ (y : Spot). y.region) f.spot ∙ omega arith;
                back = rw (z, f.back, l) refl;
                has = among_left n ms ns f.has;
              })
          | inr f ↦ inr (
              let l = erase_lacking_regions rest n (once_apart n ms ns d f.has) in
              let u = put_lacking_regions rest x.spot x.tree (once_apart x.spot.parent ms ns d f.parent) in
              record {
                parent = among_left x.spot.parent ms ns f.parent;
                back = rw (f.back, l, u) refl;
                has = among_left n ms ns f.has;
              })
        ]
        | inr g ↦ elim (regions_back rest n p (r + 1) x (once_right ms ns d) g.1) [
          | inl f ↦ inl (
              let l = erase_lacking ops n (absent_before n ms ns d f.has) in
              let z : r + 1 + f.q ≡ r + suc f.q = omega arith in
              record {
                q = suc f.q;
                parent = f.parent;
                number = f.number ∙ z;
                back = rw (l, f.back) refl;
                has = among_right n ms ns f.has;
              })
          | inr f ↦ inr (
              let l = erase_lacking ops n (absent_before n ms ns d f.has) in
              let u = put_lacking ops x.spot x.tree (absent_before x.spot.parent ms ns d f.parent) in
              record {
                parent = among_right x.spot.parent ms ns f.parent;
                back = rw (l, u, f.back) refl;
                has = among_right n ms ns f.has;
              })
        ]
      ]

-- an operation that was taken out is put back at its spot
pub erased_back : (root : Tree) (n : OpName) (x : Located) → Once (tree_names root) → tree_locate n root ≡ Some x
    → tree_put x.spot x.tree (tree_erased n root) ≡ root
erased_back root n x d h =
    elim (regions_back root.regions n root.name 0 x d.1 h) [
      | inl f ↦ (
          let z : x.spot.region ≡ f.q = f.number ∙ omega arith in
          let o = subst (λ (q : OpName). eqb root.name.0 q.0 ≡ true) (sym f.parent) (own_name root.name) in
          rw (o, z, f.back) refl)
      | inr f ↦ (
          let o = apart_names x.spot.parent root.name (regions_names root.regions) f.parent d.0 in
          rw (o, f.back) refl)
    ]

-- ---- what is there has a spot

first_right : {A : Type 0} (o : Option A) (y : A) → (x : A) × (first_of o (Some y) ≡ Some x)
first_right None y = (y, refl)
first_right (Some z) y = (z, refl)

right_among : (n : OpName) (xs ys : List OpName) → is_among n xs ≡ false → is_among n (xs ++ ys) ≡ true
    → is_among n ys ≡ true
right_among n [] ys h k = k
right_among n (x ∷ xs) ys h k =
    let p = or_parts (same_name x n) (is_among n xs) h in
    right_among n xs ys p.1 (rw p.0 at k)

mutual
  ops_located : (ops : Ops) (n p : OpName) (r i : ℕ) → is_among n (ops_names ops) ≡ true
      → (x : Located) × (ops_locate n p r i ops ≡ Some x)
  ops_located no_ops n p r i h = absurd (cc)
  ops_located (op m k ds os ts rs rest) n p r i h =
      let ms = regions_names rs in
      let ns = ops_names rest in
      elim (cases_Bool (eqb m.0 n.0)) [
        | inl e ↦ (record { spot = record { parent = p; region = r; at = i }; tree = tree m k ds os ts rs }, rw e refl)
        | inr e ↦ elim (cases_Bool (is_among n ms)) [
          | inl f ↦ (let g = regions_located rs n m 0 f in (g.0, rw (e, g.1) refl))
          | inr f ↦ (
              let g = ops_located rest n p r (i + 1) (right_among n ms ns f (rw e at h)) in
              let w = first_right (regions_locate n m 0 rs) g.0 in
              (w.0, rw (e, g.1) w.1))
        ]
      ]

  pub regions_located : (rs : Regions) (n p : OpName) (r : ℕ) → is_among n (regions_names rs) ≡ true
      → (x : Located) × (regions_locate n p r rs ≡ Some x)
  regions_located no_regions n p r h = absurd (cc)
  regions_located (region args ops rest) n p r h =
      let ms = ops_names ops in
      let ns = regions_names rest in
      elim (cases_Bool (is_among n ms)) [
        | inl f ↦ (let g = ops_located ops n p r 0 f in (g.0, rw g.1 refl))
        | inr f ↦ (
            let g = regions_located rest n p (r + 1) (right_among n ms ns f h) in
            let w = first_right (ops_locate n p r 0 ops) g.0 in
            (w.0, rw g.1 w.1))
      ]
