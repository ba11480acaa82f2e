-- Names in a tree without an operation.
use Rattle.std.proofs.Common.{◌≡◌, ℕ, ◌+◌, [], sym, ◌∙◌, ap}
use Rattle.std.proofs.Common.{arith, refl, Bool, true, false, eqb, ◌||◌, inl, inr}
use Rattle.std.proofs.lemmas.Bool.{eqb-true, cases_Bool, or_parts, or_cases, or_left}
use Rattle.std.proofs.lemmas.Bool.{or_right}
use Rattle.xf_ir.specs.declared.name.OpName.{OpName}
use Rattle.xf_ir.specs.Tree.{Ops, no_ops, op, Regions, no_regions, region}
use Rattle.xf_ir.specs.Count.{ops_count, regions_count}
use Rattle.xf_arena_tree.specs.Names.{kids, ops_has, regions_has, OpsDistinct, RegionsDistinct}
use Rattle.xf_arena_tree.specs.Without.{ops_without, regions_without, OpsLeaf, RegionsLeaf}

pub none2 : (a b : Bool) → a ≡ false → b ≡ false → (a || b) ≡ false
none2 a b p q = rw (p, q) refl

pub none3 : (a b c : Bool) → a ≡ false → b ≡ false → c ≡ false → (a || (b || c)) ≡ false
none3 a b c p q r = rw (p, q, r) refl

pub parts3 : (a b c : Bool) → (a || (b || c)) ≡ false → (a ≡ false) × ((b ≡ false) × (c ≡ false))
parts3 a b c h = let p = or_parts a (b || c) h in (p.0, or_parts b c p.1)

pub any3 : (a b c d e : Bool) → (a || (b || c)) ≡ true → (b ≡ true → d ≡ true) → (c ≡ true → e ≡ true)
    → (a || (d || e)) ≡ true
any3 a b c d e h f g =
    elim (or_cases a (b || c) h) [
      | inl i ↦ or_left a (d || e) i
      | inr i ↦ or_right a (d || e) (elim (or_cases b c i) [ inl j ↦ or_left d e (f j) | inr j ↦ or_right d e (g j) ])
    ]

-- an operation with no children holds no names
pub no_kids : (x : OpName) (rs : Regions) → kids rs ≡ [] → regions_has x rs ≡ false
no_kids x no_regions e = refl
no_kids x (region args no_ops rest) e = no_kids x rest e
no_kids x (region args (op n k ds os ts rs more) rest) e = cc

pub no_kids_count : (rs : Regions) → kids rs ≡ [] → regions_count rs ≡ 0
no_kids_count no_regions e = refl
no_kids_count (region args no_ops rest) e = let h = no_kids_count rest e in omega arith
no_kids_count (region args (op n k ds os ts rs more) rest) e = cc

-- what is left was there
mutual
  pub ops_subset : (x o : OpName) (ops : Ops) → ops_has x ops ≡ false → ops_has x (ops_without o ops) ≡ false
  ops_subset x o no_ops h = refl
  ops_subset x o (op n k ds os ts rs rest) h =
      let p = parts3 (eqb n.0 x.0) (regions_has x rs) (ops_has x rest) h in
      elim (cases_Bool (eqb n.0 o.0)) [
        | inl t ↦ rw t (ops_subset x o rest p.1.1)
        | inr f ↦ rw f (none3 (eqb n.0 x.0) (regions_has x (regions_without o rs))
            (ops_has x (ops_without o rest)) p.0 (regions_subset x o rs p.1.0) (ops_subset x o rest p.1.1))
      ]

  pub regions_subset : (x o : OpName) (rs : Regions) → regions_has x rs ≡ false
      → regions_has x (regions_without o rs) ≡ false
  regions_subset x o no_regions h = refl
  regions_subset x o (region args ops rest) h =
      let p = or_parts (ops_has x ops) (regions_has x rest) h in
      none2 (ops_has x (ops_without o ops)) (regions_has x (regions_without o rest)) (ops_subset x o ops p.0)
      (regions_subset x o rest p.1)

-- a leaf takes no other name with it
mutual
  pub ops_kept : (x o : OpName) (ops : Ops) → OpsLeaf o ops → eqb o.0 x.0 ≡ false → ops_has x ops ≡ true
      → ops_has x (ops_without o ops) ≡ true
  ops_kept x o no_ops l ne h = h
  ops_kept x o (op n k ds os ts rs rest) l ne h =
      elim (cases_Bool (eqb n.0 o.0)) [
        | inl t ↦ rw t (ops_kept x o rest l.1.1 ne (
            let q : eqb n.0 x.0 ≡ false = rw (eqb-true n.0 o.0 t) ne in
            rw (q, no_kids x rs (l.0 t)) at h))
        | inr f ↦ rw f (any3 (eqb n.0 x.0) (regions_has x rs) (ops_has x rest) (regions_has x (regions_without o rs))
            (ops_has x (ops_without o rest)) h (regions_kept x o rs l.1.0 ne) (ops_kept x o rest l.1.1 ne))
      ]

  pub regions_kept : (x o : OpName) (rs : Regions) → RegionsLeaf o rs → eqb o.0 x.0 ≡ false → regions_has x rs ≡ true
      → regions_has x (regions_without o rs) ≡ true
  regions_kept x o no_regions l ne h = h
  regions_kept x o (region args ops rest) l ne h =
      elim (or_cases (ops_has x ops) (regions_has x rest) h) [
        | inl b ↦ or_left (ops_has x (ops_without o ops)) (regions_has x (regions_without o rest))
            (ops_kept x o ops l.0 ne b)
        | inr b ↦ or_right (ops_has x (ops_without o ops)) (regions_has x (regions_without o rest))
            (regions_kept x o rest l.1 ne b)
      ]

absent : (x o : OpName) (ops : Ops) (b : Bool) → (b ≡ true → ops_has x ops ≡ false) → b ≡ true
    → ops_has x (ops_without o ops) ≡ false
absent x o ops b h e = ops_subset x o ops (h e)

was_in : (x o : OpName) (ops : Ops) → ops_has x (ops_without o ops) ≡ true → ops_has x ops ≡ true
was_in x o ops h = elim (cases_Bool (ops_has x ops))
    [ inl a ↦ a | inr a ↦ let q : true ≡ false = sym h ∙ ops_subset x o ops a in cc ]

was_in_regions : (x o : OpName) (rs : Regions) → regions_has x (regions_without o rs) ≡ true → regions_has x rs ≡ true
was_in_regions x o rs h = elim
    (cases_Bool (regions_has x rs)) [ inl a ↦ a | inr a ↦ let q : true ≡ false = sym h ∙ regions_subset x o rs a in cc ]

mutual
  pub ops_distinct : (o : OpName) (ops : Ops) → OpsDistinct ops → OpsDistinct (ops_without o ops)
  ops_distinct o no_ops d = tt
  ops_distinct o (op n k ds os ts rs rest) d =
      elim (cases_Bool (eqb n.0 o.0)) [
        | inl t ↦ rw t (ops_distinct o rest d.1.1.1.1)
        | inr f ↦ rw f (
          regions_subset n o rs d.0,
          (
            ops_subset n o rest d.1.0,
            (
              (λ x h. ops_subset x o rest (d.1.1.0 x (was_in_regions x o rs h))),
              (regions_distinct o rs d.1.1.1.0, ops_distinct o rest d.1.1.1.1),
            ),
          ),
        )
      ]

  pub regions_distinct : (o : OpName) (rs : Regions) → RegionsDistinct rs → RegionsDistinct (regions_without o rs)
  regions_distinct o no_regions d = tt
  regions_distinct o (region args ops rest) d = (
    (λ x h. regions_subset x o rest (d.0 x (was_in x o ops h))),
    (ops_distinct o ops d.1.0, regions_distinct o rest d.1.1),
  )

-- where the name is absent nothing changes
mutual
  pub ops_absent : (o : OpName) (ops : Ops) → ops_has o ops ≡ false → ops_without o ops ≡ ops
  ops_absent o no_ops h = refl
  ops_absent o (op n k ds os ts rs rest) h =
      let p = parts3 (eqb n.0 o.0) (regions_has o rs) (ops_has o rest) h in
      rw (p.0, regions_absent o rs p.1.0, ops_absent o rest p.1.1) refl

  pub regions_absent : (o : OpName) (rs : Regions) → regions_has o rs ≡ false → regions_without o rs ≡ rs
  regions_absent o no_regions h = refl
  regions_absent o (region args ops rest) h = let p =
      or_parts (ops_has o ops) (regions_has o rest) h in rw (ops_absent o ops p.0, regions_absent o rest p.1) refl

-- one operation fewer
mutual
  pub ops_fewer : (o : OpName) (ops : Ops) → OpsDistinct ops → OpsLeaf o ops → ops_has o ops ≡ true
      → ops_count (ops_without o ops) + 1 ≡ ops_count ops
  ops_fewer o no_ops d l h = cc
  ops_fewer o (op n k ds os ts rs rest) d l h =
      elim (cases_Bool (eqb n.0 o.0)) [
        | inl t ↦
            let e : ops_without o rest ≡ rest =
            ops_absent o rest (let q = eqb-true n.0 o.0 t in let mk : ℕ
            → OpName = λ x. record { 0 = x } in let w : n ≡ o = ap mk q in rw (← w) d.1.0) in
            rw (t, e) (omega (arith, no_kids_count rs (l.0 t)))
        | inr f ↦ rw f (elim (cases_Bool (regions_has o rs)) [
          | inl a ↦ rw (ops_absent o rest (d.1.1.0 o a)) (omega (arith, regions_fewer o rs d.1.1.1.0 l.1.0 a))
          | inr a ↦ rw (regions_absent o rs a)
              (let r : ops_has o rest ≡ true = rw (f, a) at h in omega (arith, ops_fewer o rest d.1.1.1.1 l.1.1 r))
        ])
      ]

  pub regions_fewer : (o : OpName) (rs : Regions) → RegionsDistinct rs → RegionsLeaf o rs → regions_has o rs ≡ true
      → regions_count (regions_without o rs) + 1 ≡ regions_count rs
  regions_fewer o no_regions d l h = cc
  regions_fewer o (region args ops rest) d l h =
      elim (cases_Bool (ops_has o ops)) [
        | inl a ↦ rw (regions_absent o rest (d.0 o a)) (omega (arith, ops_fewer o ops d.1.0 l.0 a))
        | inr a ↦ rw (ops_absent o ops a)
            (let r : regions_has o rest ≡ true = rw a at h in omega (arith, regions_fewer o rest d.1.1 l.1 r))
      ]
