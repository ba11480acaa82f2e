-- Names of a tree with another tree put in.
use Rattle.std.proofs.Common.{◌≡◌, ℕ, zero, suc, ◌+◌, ◌≤◌, [], length, sym, ◌∙◌, ap}
use Rattle.std.proofs.Common.{arith, refl, Bool, true, false, eqb, ◌||◌, ◌⊎◌, inl, inr}
use Rattle.std.proofs.lemmas.Bool.{eqb-true, eqb-false, eq-eqb, ne_eqb, cases_Bool, or_parts, or_cases}
use Rattle.std.proofs.lemmas.Bool.{or_left, or_right}
use Rattle.xf_ir.specs.declared.name.OpName.{OpName}
use Rattle.xf_ir.specs.Tree.{Ops, no_ops, op, Regions, no_regions, region, Tree, cons}
use Rattle.xf_ir.specs.Count.{ops_count, regions_count, tree_count}
use Rattle.xf_arena_tree.specs.Names.{heads, kids, ops_has, regions_has, OpsDistinct, RegionsDistinct}
use Rattle.xf_ir.specs.Spots.{ops_insert, regions_insert}
use Rattle.xf_arena_tree.specs.Puts.{ops_put, regions_put, InRange}
use Rattle.xf_arena_tree.specs.Without.{OpsWhere, RegionsWhere}
use Rattle.xf_arena_tree.proofs.GrowLemmas.{ops_put_absent, regions_put_absent}
use Rattle.xf_arena_tree.proofs.WithoutLemmas.{no_kids, none2, none3, parts3, any3}

-- neither in the tree nor in the block
insert_none : (x : OpName) (i : ℕ) (t : Tree) (ops : Ops) → ops_has x (cons t no_ops) ≡ false → ops_has x ops ≡ false
    → ops_has x (ops_insert i t ops) ≡ false
insert_none x zero t ops ht h =
    let p = parts3 (eqb t.name.0 x.0) (regions_has x t.regions) false ht in
    none3 (eqb t.name.0 x.0) (regions_has x t.regions) (ops_has x ops) p.0 p.1.0 h
insert_none x (suc i) t no_ops ht h = refl
insert_none x (suc i) t (op n k ds os ts rs rest) ht h =
    let p = parts3 (eqb n.0 x.0) (regions_has x rs) (ops_has x rest) h in
    none3 (eqb n.0 x.0) (regions_has x rs) (ops_has x (ops_insert i t rest)) p.0 p.1.0 (insert_none x i t rest ht p.1.1)

insert_regions_none : (x : OpName) (r i : ℕ) (t : Tree) (rs : Regions) → ops_has x (cons t no_ops) ≡ false
    → regions_has x rs ≡ false → regions_has x (regions_insert r i t rs) ≡ false
insert_regions_none x r i t no_regions ht h = refl
insert_regions_none x zero i t (region args ops rest) ht h = let p =
    or_parts (ops_has x ops) (regions_has x rest) h in none2 (ops_has x (ops_insert i t ops)) (regions_has x rest)
    (insert_none x i t ops ht p.0) p.1
insert_regions_none x (suc r) i t (region args ops rest) ht h = let p =
    or_parts (ops_has x ops) (regions_has x rest) h in none2 (ops_has x ops)
    (regions_has x (regions_insert r i t rest)) p.0 (insert_regions_none x r i t rest ht p.1)

mutual
  pub put_none : (x p : OpName) (r i : ℕ) (t : Tree) (ops : Ops) → ops_has x (cons t no_ops) ≡ false
      → ops_has x ops ≡ false → ops_has x (ops_put p r i t ops) ≡ false
  put_none x p r i t no_ops ht h = refl
  put_none x p r i t (op n k ds os ts rs rest) ht h =
      let q = parts3 (eqb n.0 x.0) (regions_has x rs) (ops_has x rest) h in
      elim (cases_Bool (eqb n.0 p.0)) [
        | inl e ↦ rw e (none3 (eqb n.0 x.0) (regions_has x (regions_insert r i t rs)) (ops_has x rest) q.0
            (insert_regions_none x r i t rs ht q.1.0) q.1.1)
        | inr e ↦ rw e (none3 (eqb n.0 x.0) (regions_has x (regions_put p r i t rs))
            (ops_has x (ops_put p r i t rest)) q.0 (put_regions_none x p r i t rs ht q.1.0)
            (put_none x p r i t rest ht q.1.1))
      ]

  pub put_regions_none : (x p : OpName) (r i : ℕ) (t : Tree) (rs : Regions) → ops_has x (cons t no_ops) ≡ false
      → regions_has x rs ≡ false → regions_has x (regions_put p r i t rs) ≡ false
  put_regions_none x p r i t no_regions ht h = refl
  put_regions_none x p r i t (region args ops rest) ht h =
      let q = or_parts (ops_has x ops) (regions_has x rest) h in
      none2 (ops_has x (ops_put p r i t ops)) (regions_has x (regions_put p r i t rest))
      (put_none x p r i t ops ht q.0) (put_regions_none x p r i t rest ht q.1)

-- what was there stays
insert_some : (x : OpName) (i : ℕ) (t : Tree) (ops : Ops) → i ≤ length (heads ops) → ops_has x ops ≡ true
    → ops_has x (ops_insert i t ops) ≡ true
insert_some x zero t ops l h =
    or_right (eqb t.name.0 x.0) (regions_has x t.regions || ops_has x ops)
    (or_right (regions_has x t.regions) (ops_has x ops) h)
insert_some x (suc i) t no_ops l h = cc
insert_some x (suc i) t (op n k ds os ts rs rest) l h =
    any3 (eqb n.0 x.0) (regions_has x rs) (ops_has x rest) (regions_has x rs) (ops_has x (ops_insert i t rest)) h
    (λ a. a) (insert_some x i t rest (omega arith))

insert_regions_some : (x : OpName) (r i : ℕ) (t : Tree) (rs : Regions) → InRange r i rs → regions_has x rs ≡ true
    → regions_has x (regions_insert r i t rs) ≡ true
insert_regions_some x r i t no_regions l h = h
insert_regions_some x zero i t (region args ops rest) l h =
    elim (or_cases (ops_has x ops) (regions_has x rest) h) [
      | inl a ↦ or_left (ops_has x (ops_insert i t ops)) (regions_has x rest)
          (insert_some x i t ops l a)
      | inr a ↦ or_right (ops_has x (ops_insert i t ops)) (regions_has x rest) a
    ]
insert_regions_some x (suc r) i t (region args ops rest) l h =
    elim (or_cases (ops_has x ops) (regions_has x rest) h) [
      | inl a ↦ or_left (ops_has x ops) (regions_has x (regions_insert r i t rest)) a
      | inr a ↦ or_right
          (ops_has x ops) (regions_has x (regions_insert r i t rest)) (insert_regions_some x r i t rest l a)
    ]

mutual
  pub put_some : (x p : OpName) (r i : ℕ) (t : Tree) (ops : Ops) → OpsWhere p (InRange r i) ops
      → ops_has x ops ≡ true → ops_has x (ops_put p r i t ops) ≡ true
  put_some x p r i t no_ops w h = h
  put_some x p r i t (op n k ds os ts rs rest) w h =
      elim (cases_Bool (eqb n.0 p.0)) [
        | inl e ↦ rw e (any3 (eqb n.0 x.0) (regions_has x rs) (ops_has x rest)
            (regions_has x (regions_insert r i t rs)) (ops_has x rest) h (insert_regions_some x r i t rs (w.0 e))
            (λ a. a))
        | inr e ↦ rw e (any3 (eqb n.0 x.0) (regions_has x rs) (ops_has x rest)
            (regions_has x (regions_put p r i t rs)) (ops_has x (ops_put p r i t rest)) h
            (put_regions_some x p r i t rs w.1.0) (put_some x p r i t rest w.1.1))
      ]

  pub put_regions_some : (x p : OpName) (r i : ℕ) (t : Tree) (rs : Regions) → RegionsWhere p (InRange r i) rs
      → regions_has x rs ≡ true → regions_has x (regions_put p r i t rs) ≡ true
  put_regions_some x p r i t no_regions w h = h
  put_regions_some x p r i t (region args ops rest) w h =
      elim (or_cases (ops_has x ops) (regions_has x rest) h) [
        | inl a ↦ or_left (ops_has x (ops_put p r i t ops)) (regions_has x (regions_put p r i t rest))
            (put_some x p r i t ops w.0 a)
        | inr a ↦ or_right (ops_has x (ops_put p r i t ops)) (regions_has x (regions_put p r i t rest))
            (put_regions_some x p r i t rest w.1 a)
      ]

-- the new name is there
insert_new : (i : ℕ) (t : Tree) (ops : Ops) → i ≤ length (heads ops) → ops_has t.name (ops_insert i t ops) ≡ true
insert_new zero t ops l = or_left (eqb t.name.0 t.name.0) (regions_has t.name t.regions || ops_has t.name ops)
    (eq-eqb t.name.0 t.name.0 refl)
insert_new (suc i) t no_ops l = absurd (omega arith)
insert_new (suc i) t (op n k ds os ts rs rest) l =
    or_right (eqb n.0 t.name.0) (regions_has t.name rs || ops_has t.name (ops_insert i t rest))
    (or_right (regions_has t.name rs) (ops_has t.name (ops_insert i t rest)) (insert_new i t rest (omega arith)))

insert_regions_new : (r i : ℕ) (t : Tree) (rs : Regions) → InRange r i rs
    → regions_has t.name (regions_insert r i t rs) ≡ true
insert_regions_new r i t no_regions l = absurd l
insert_regions_new zero i t (region args ops rest) l =
    or_left (ops_has t.name (ops_insert i t ops)) (regions_has t.name rest) (insert_new i t ops l)
insert_regions_new (suc r) i t (region args ops rest) l =
    or_right (ops_has t.name ops) (regions_has t.name (regions_insert r i t rest)) (insert_regions_new r i t rest l)

mutual
  pub put_new : (p : OpName) (r i : ℕ) (t : Tree) (ops : Ops) → OpsWhere p (InRange r i) ops → ops_has p ops ≡ true
      → ops_has t.name (ops_put p r i t ops) ≡ true
  put_new p r i t no_ops w h = cc
  put_new p r i t (op n k ds os ts rs rest) w h =
      elim (cases_Bool (eqb n.0 p.0)) [
        | inl e ↦ rw e (or_right (eqb n.0 t.name.0)
            (regions_has t.name (regions_insert r i t rs) || ops_has t.name rest)
            (or_left (regions_has t.name (regions_insert r i t rs)) (ops_has t.name rest)
            (insert_regions_new r i t rs (w.0 e))))
        | inr e ↦
            let h2 : (regions_has p rs || ops_has p rest) ≡ true = rw e at h in
            rw e (or_right (eqb n.0 t.name.0)
            (regions_has t.name (regions_put p r i t rs) || ops_has t.name (ops_put p r i t rest))
            (elim (or_cases (regions_has p rs) (ops_has p rest) h2) [
              | inl a ↦ or_left (regions_has t.name (regions_put p r i t rs)) (ops_has t.name (ops_put p r i t rest))
                  (put_regions_new p r i t rs w.1.0 a)
              | inr a ↦ or_right (regions_has t.name (regions_put p r i t rs))
                  (ops_has t.name (ops_put p r i t rest)) (put_new p r i t rest w.1.1 a)
            ]))
      ]

  pub put_regions_new : (p : OpName) (r i : ℕ) (t : Tree) (rs : Regions) → RegionsWhere p (InRange r i) rs
      → regions_has p rs ≡ true → regions_has t.name (regions_put p r i t rs) ≡ true
  put_regions_new p r i t no_regions w h = cc
  put_regions_new p r i t (region args ops rest) w h =
      elim (or_cases (ops_has p ops) (regions_has p rest) h) [
        | inl a ↦ or_left (ops_has t.name (ops_put p r i t ops)) (regions_has t.name (regions_put p r i t rest))
            (put_new p r i t ops w.0 a)
        | inr a ↦ or_right (ops_has t.name (ops_put p r i t ops)) (regions_has t.name (regions_put p r i t rest))
            (put_regions_new p r i t rest w.1 a)
      ]

-- counts
insert_count : (i : ℕ) (t : Tree) (ops : Ops) → i ≤ length (heads ops)
    → ops_count (ops_insert i t ops) ≡ ops_count ops + tree_count t
insert_count zero t ops l = omega arith
insert_count (suc i) t no_ops l = absurd (omega arith)
insert_count (suc i) t (op n k ds os ts rs rest) l = omega (arith, insert_count i t rest (omega arith))

insert_regions_count : (r i : ℕ) (t : Tree) (rs : Regions) → InRange r i rs
    → regions_count (regions_insert r i t rs) ≡ regions_count rs + tree_count t
insert_regions_count r i t no_regions l = absurd l
insert_regions_count zero i t (region args ops rest) l = omega (arith, insert_count i t ops l)
insert_regions_count (suc r) i t (region args ops rest) l = omega (arith, insert_regions_count r i t rest l)

mutual
  pub put_same_count : (p : OpName) (r i : ℕ) (t : Tree) (ops : Ops) → ops_has p ops ≡ false
      → ops_count (ops_put p r i t ops) ≡ ops_count ops
  put_same_count p r i t no_ops h = refl
  put_same_count p r i t (op n k ds os ts rs rest) h =
      let q = parts3 (eqb n.0 p.0) (regions_has p rs) (ops_has p rest) h in
      rw q.0 (omega (arith, put_regions_same_count p r i t rs q.1.0, put_same_count p r i t rest q.1.1))

  put_regions_same_count : (p : OpName) (r i : ℕ) (t : Tree) (rs : Regions) → regions_has p rs ≡ false
      → regions_count (regions_put p r i t rs) ≡ regions_count rs
  put_regions_same_count p r i t no_regions h = refl
  put_regions_same_count p r i t (region args ops rest) h =
      let q = or_parts (ops_has p ops) (regions_has p rest) h in
      omega (arith, put_same_count p r i t ops q.0, put_regions_same_count p r i t rest q.1)

mutual
  pub put_count : (p : OpName) (r i : ℕ) (t : Tree) (ops : Ops) → OpsDistinct ops → OpsWhere p (InRange r i) ops
      → ops_has p ops ≡ true → ops_count (ops_put p r i t ops) ≡ ops_count ops + tree_count t
  put_count p r i t no_ops d w h = cc
  put_count p r i t (op n k ds os ts rs rest) d w h =
      elim (cases_Bool (eqb n.0 p.0)) [
        | inl e ↦ rw e (omega (arith, insert_regions_count r i t rs (w.0 e)))
        | inr e ↦ rw e (elim (cases_Bool (regions_has p rs)) [
          | inl a ↦ omega (
            arith,
            put_regions_count p r i t rs d.1.1.1.0 w.1.0 a,
            put_same_count p r i t rest (d.1.1.0 p a),
          )
          | inr a ↦ let h2 : ops_has p rest ≡ true =
              rw (e, a) at h in omega (
                arith,
                put_regions_same_count p r i t rs a,
                put_count p r i t rest d.1.1.1.1 w.1.1 h2,
              )
        ])
      ]

  pub put_regions_count : (p : OpName) (r i : ℕ) (t : Tree) (rs : Regions) → RegionsDistinct rs
      → RegionsWhere p (InRange r i) rs → regions_has p rs ≡ true
      → regions_count (regions_put p r i t rs) ≡ regions_count rs + tree_count t
  put_regions_count p r i t no_regions d w h = cc
  put_regions_count p r i t (region args ops rest) d w h =
      elim (cases_Bool (ops_has p ops)) [
        | inl a ↦ omega (arith, put_count p r i t ops d.1.0 w.0 a, put_regions_same_count p r i t rest (d.0 p a))
        | inr a ↦ let h2 : regions_has p rest ≡ true =
            rw a at h in omega (arith, put_same_count p r i t ops a, put_regions_count p r i t rest d.1.1 w.1 h2)
      ]

-- a leaf with a new name keeps the names distinct
abbrev pub OnlyName : Tree → Type 0
OnlyName t = (x : OpName) → eqb t.name.0 x.0 ≡ false → ops_has x (cons t no_ops) ≡ false

other_of : (f : OpName → Bool) (n x : OpName) → f n ≡ false → f x ≡ true → eqb n.0 x.0 ≡ false
other_of f n x a b = elim (cases_Bool (eqb n.0 x.0)) [
  | inl e ↦ let mk : ℕ → OpName = λ k. record { 0 = k } in let q : n ≡ x =
      ap mk (eqb-true n.0 x.0 e) in let z : true ≡ false = sym b ∙ ap f (sym q) ∙ a in cc
  | inr e ↦ e
]

flip_eqb : (a b : ℕ) → eqb a b ≡ false → eqb b a ≡ false
flip_eqb a b e = ne_eqb b a (λ q. eqb-false a b e (sym q))

-- in the larger one: the new name, or one from before
was_or_new : (f g : OpName → Bool) (t : Tree) (x : OpName) → OnlyName t
    → (ops_has x (cons t no_ops) ≡ false → f x ≡ false → g x ≡ false) → g x ≡ true → (t.name ≡ x) ⊎ (f x ≡ true)
was_or_new f g t x o h e =
    elim (cases_Bool (eqb t.name.0 x.0)) [
      | inl a ↦ inl (let mk : ℕ → OpName = λ k. record { 0 = k } in ap mk (eqb-true t.name.0 x.0 a))
      | inr a ↦ inr (elim (cases_Bool (f x)) [ inl q ↦ q | inr q ↦ let z : true ≡ false = sym e ∙ h (o x a) q in cc ])
    ]

-- leaf: its regions hold nothing
pub leaf_regions_distinct : (rs : Regions) → kids rs ≡ [] → RegionsDistinct rs
leaf_regions_distinct no_regions e = tt
leaf_regions_distinct (region args no_ops rest) e = ((λ x h. cc), (tt, leaf_regions_distinct rest e))
leaf_regions_distinct (region args (op n k ds os ts rs more) rest) e = cc

insert_distinct : (i : ℕ) (t : Tree) (ops : Ops) → OnlyName t → kids t.regions ≡ [] → ops_has t.name ops ≡ false
    → OpsDistinct ops → OpsDistinct (ops_insert i t ops)
insert_distinct zero t ops o l f d = (
  no_kids t.name t.regions l,
  (
    f,
    ((λ x h. let z : true ≡ false = sym h ∙ no_kids x t.regions l in cc), (leaf_regions_distinct t.regions l, d)),
  ),
)
insert_distinct (suc i) t no_ops o l f d = tt
insert_distinct (suc i) t (op n k ds os ts rs rest) o l f d =
    let q = parts3 (eqb n.0 t.name.0) (regions_has t.name rs) (ops_has t.name rest) f in (
      d.0,
      (
        insert_none n i t rest (o n (flip_eqb n.0 t.name.0 q.0)) d.1.0,
        (
          (λ x h. insert_none x i t rest (o x (other_of (λ y. regions_has y rs) t.name x q.1.0 h)) (d.1.1.0 x h)),
          (d.1.1.1.0, insert_distinct i t rest o l q.1.1 d.1.1.1.1),
        ),
      ),
    )

insert_regions_distinct : (r i : ℕ) (t : Tree) (rs : Regions) → OnlyName t → kids t.regions ≡ []
    → regions_has t.name rs ≡ false → RegionsDistinct rs → RegionsDistinct (regions_insert r i t rs)
insert_regions_distinct r i t no_regions o l f d = tt
insert_regions_distinct zero i t (region args ops rest) o l f d =
    let q = or_parts (ops_has t.name ops) (regions_has t.name rest) f in (
      (λ x h. elim (was_or_new (λ y. ops_has y ops) (λ y. ops_has y (ops_insert i t ops)) t x o
          (insert_none x i t ops) h) [ inl e ↦ rw (← e) q.1 | inr e ↦ d.0 x e ]),
      (insert_distinct i t ops o l q.0 d.1.0, d.1.1),
    )
insert_regions_distinct (suc r) i t (region args ops rest) o l f d =
    let q = or_parts (ops_has t.name ops) (regions_has t.name rest) f in (
      (λ x h. insert_regions_none x r i t rest (o x (other_of (λ y. ops_has y ops) t.name x q.0 h)) (d.0 x h)),
      (d.1.0, insert_regions_distinct r i t rest o l q.1 d.1.1),
    )

mutual
  pub put_distinct : (p : OpName) (r i : ℕ) (t : Tree) (ops : Ops) → OnlyName t → kids t.regions ≡ []
      → ops_has t.name ops ≡ false → OpsDistinct ops → OpsDistinct (ops_put p r i t ops)
  put_distinct p r i t no_ops o l f d = tt
  put_distinct p r i t (op n k ds os ts rs rest) o l f d =
      let q = parts3 (eqb n.0 t.name.0) (regions_has t.name rs) (ops_has t.name rest) f in
      let on : ops_has n (cons t no_ops) ≡ false = o n (flip_eqb n.0 t.name.0 q.0) in
      elim (cases_Bool (eqb n.0 p.0)) [
        | inl e ↦ rw e (
          insert_regions_none n r i t rs on d.0,
          (
            d.1.0,
            (
              (λ x h. elim (was_or_new (λ y. regions_has y rs) (λ y. regions_has y (regions_insert r i t rs)) t x o
                  (insert_regions_none x r i t rs) h) [ inl w ↦ rw (← w) q.1.1 | inr w ↦ d.1.1.0 x w ]),
              (insert_regions_distinct r i t rs o l q.1.0 d.1.1.1.0, d.1.1.1.1),
            ),
          ),
        )
        | inr e ↦ rw e (
          put_regions_none n p r i t rs on d.0,
          (
            put_none n p r i t rest on d.1.0,
            (
              (λ x h. elim (was_or_new (λ y. regions_has y rs) (λ y. regions_has y (regions_put p r i t rs)) t x o
                  (put_regions_none x p r i t rs) h) [
                    | inl w ↦ elim (cases_Bool (regions_has p rs)) [
                      | inl a ↦ rw (ops_put_absent p r i t rest (d.1.1.0 p a)) (rw (← w) q.1.1)
                      | inr a ↦ let h2 : regions_has x rs ≡ true =
                          rw (regions_put_absent p r i t rs a) at h in let h3 : regions_has x rs ≡ false =
                          rw (← w) q.1.0 in let z : true ≡ false = sym h2 ∙ h3 in cc
                    ]
                    | inr w ↦ put_none x p r i t rest (o x (other_of (λ y. regions_has y rs) t.name x q.1.0 w))
                        (d.1.1.0 x w)
                  ]),
              (put_regions_distinct p r i t rs o l q.1.0 d.1.1.1.0, put_distinct p r i t rest o l q.1.1 d.1.1.1.1),
            ),
          ),
        )
      ]

  pub put_regions_distinct : (p : OpName) (r i : ℕ) (t : Tree) (rs : Regions) → OnlyName t → kids t.regions ≡ []
      → regions_has t.name rs ≡ false → RegionsDistinct rs → RegionsDistinct (regions_put p r i t rs)
  put_regions_distinct p r i t no_regions o l f d = tt
  put_regions_distinct p r i t (region args ops rest) o l f d =
      let q = or_parts (ops_has t.name ops) (regions_has t.name rest) f in (
        (λ x h. elim (was_or_new (λ y. ops_has y ops) (λ y. ops_has y (ops_put p r i t ops)) t x o
            (put_none x p r i t ops) h) [
              | inl w ↦ elim (cases_Bool (ops_has p ops)) [
                | inl a ↦ rw (regions_put_absent p r i t rest (d.0 p a)) (rw (← w) q.1)
                | inr a ↦ let h2 : ops_has x ops ≡ true =
                    rw (ops_put_absent p r i t ops a) at h in let h3 : ops_has x ops ≡ false =
                    rw (← w) q.0 in let z : true ≡ false = sym h2 ∙ h3 in cc
              ]
              | inr w ↦ put_regions_none x p r i t rest (o x (other_of (λ y. ops_has y ops) t.name x q.0 w)) (d.0 x w)
            ]),
        (put_distinct p r i t ops o l q.0 d.1.0, put_regions_distinct p r i t rest o l q.1 d.1.1),
      )
