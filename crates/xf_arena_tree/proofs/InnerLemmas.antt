-- A child is inside its parent.
use Rattle.std.proofs.Common.{◌≡◌, ℕ, ◌<◌, ◌≤◌, sym, ◌∙◌, ap}
use Rattle.std.proofs.Common.{arith, refl, Bool, true, false, eqb, ◌||◌, inl, inr}
use Rattle.std.proofs.lemmas.Bool.{eqb-true, cases_Bool, or_parts}
use Rattle.std.proofs.lemmas.Bool.{or_left, or_right}
use Rattle.xf_ir.specs.declared.name.OpName.{OpName}
use Rattle.xf_ir.specs.Tree.{Ops, no_ops, op, Regions, no_regions, region}
use Rattle.xf_ir.specs.Count.{ops_count, regions_count}
use Rattle.xf_arena_tree.specs.Names.{ops_has, regions_has, OpsDistinct, RegionsDistinct}
use Rattle.xf_arena_tree.specs.Without.{ops_without, regions_without, OpsWhere, RegionsWhere}
use Rattle.xf_arena_tree.specs.Inner.{ops_below, regions_below}
use Rattle.xf_arena_tree.proofs.WithoutLemmas.{parts3, ops_absent, regions_absent}

abbrev pub Holds_ : OpName → Regions → Type 0
Holds_ k rs = regions_has k rs ≡ true

same : (n o : OpName) → eqb n.0 o.0 ≡ true → n ≡ o
same n o e = let mk : ℕ → OpName = λ x. record { 0 = x } in ap mk (eqb-true n.0 o.0 e)

pub not_here : (f : OpName → Bool) (n k : OpName) → f n ≡ false → f k ≡ true → eqb n.0 k.0 ≡ false
not_here f n k a b = elim (cases_Bool (eqb n.0 k.0))
    [ inl e ↦ let z : true ≡ false = sym b ∙ ap f (sym (same n k e)) ∙ a in cc | inr e ↦ e ]

mutual
  below_none : (k : OpName) (ops : Ops) → ops_has k ops ≡ false → ops_below k ops ≡ 0
  below_none k no_ops h = refl
  below_none k (op n kd ds os ts rs rest) h =
      let p = parts3 (eqb n.0 k.0) (regions_has k rs) (ops_has k rest) h in
      rw p.0 (omega (arith, regions_below_none k rs p.1.0, below_none k rest p.1.1))

  regions_below_none : (k : OpName) (rs : Regions) → regions_has k rs ≡ false → regions_below k rs ≡ 0
  regions_below_none k no_regions h = refl
  regions_below_none k (region args ops rest) h =
      let p = or_parts (ops_has k ops) (regions_has k rest) h in
      omega (arith, below_none k ops p.0, regions_below_none k rest p.1)

mutual
  below_count : (k : OpName) (ops : Ops) → OpsDistinct ops → ops_has k ops ≡ true → ops_below k ops < ops_count ops
  below_count k no_ops d h = cc
  below_count k (op n kd ds os ts rs rest) d h =
      elim (cases_Bool (eqb n.0 k.0)) [
        | inl e ↦ rw e (omega (arith, below_none k rest (rw (same n k e) at d.1.0)))
        | inr e ↦ rw e (elim (cases_Bool (regions_has k rs)) [
          | inl a ↦ omega (arith, regions_below_count k rs d.1.1.1.0 a, below_none k rest (d.1.1.0 k a))
          | inr a ↦ let b : ops_has k rest ≡ true =
              rw (e, a) at h in omega (arith, regions_below_none k rs a, below_count k rest d.1.1.1.1 b)
        ])
      ]

  regions_below_count : (k : OpName) (rs : Regions) → RegionsDistinct rs → regions_has k rs ≡ true
      → regions_below k rs < regions_count rs
  regions_below_count k no_regions d h = cc
  regions_below_count k (region args ops rest) d h =
      elim (cases_Bool (ops_has k ops)) [
        | inl a ↦ omega (arith, below_count k ops d.1.0 a, regions_below_none k rest (d.0 k a))
        | inr a ↦ let b : regions_has k rest ≡ true =
            rw a at h in omega (arith, below_none k ops a, regions_below_count k rest d.1.1 b)
      ]

mutual
  at_most : (k : OpName) (ops : Ops) → ops_count (ops_without k ops) ≤ ops_count ops
  at_most k no_ops = omega arith
  at_most k (op n kd ds os ts rs rest) =
      elim (cases_Bool (eqb n.0 k.0)) [
        | inl e ↦ rw e (omega (arith, at_most k rest))
        | inr e ↦ rw e
            (omega (arith, regions_at_most k rs, at_most k rest))
      ]

  regions_at_most : (k : OpName) (rs : Regions) → regions_count (regions_without k rs) ≤ regions_count rs
  regions_at_most k no_regions = omega arith
  regions_at_most k (region args ops rest) = omega (arith, at_most k ops, regions_at_most k rest)

pub record Inside (k o : OpName) (ops : Ops) : Type 0 where
  pub has : ops_has k ops ≡ true
  pub same_rest : ops_without o (ops_without k ops) ≡ ops_without o ops
  pub below : ops_below k ops < ops_below o ops
  pub fewer : ops_below o (ops_without k ops) < ops_below o ops
  pub stays : ops_has o (ops_without k ops) ≡ true

pub record RegionsInside (k o : OpName) (rs : Regions) : Type 0 where
  pub has : regions_has k rs ≡ true
  pub same_rest : regions_without o (regions_without k rs) ≡ regions_without o rs
  pub below : regions_below k rs < regions_below o rs
  pub fewer : regions_below o (regions_without k rs) < regions_below o rs
  pub stays : regions_has o (regions_without k rs) ≡ true

mutual
  less : (k : OpName) (ops : Ops) → ops_has k ops ≡ true → ops_count (ops_without k ops) < ops_count ops
  less k no_ops h = cc
  less k (op n kd ds os ts rs rest) h =
      elim (cases_Bool (eqb n.0 k.0)) [
        | inl e ↦ rw e (omega (arith, at_most k rest))
        | inr e ↦ rw e (elim (cases_Bool (regions_has k rs)) [
          | inl a ↦ omega (arith, regions_less k rs a, at_most k rest)
          | inr a ↦ let b : ops_has k rest ≡ true = rw (e, a) at h in omega (arith, regions_at_most k rs, less k rest b)
        ])
      ]

  regions_less : (k : OpName) (rs : Regions) → regions_has k rs ≡ true
      → regions_count (regions_without k rs) < regions_count rs
  regions_less k no_regions h = cc
  regions_less k (region args ops rest) h =
      elim (cases_Bool (ops_has k ops)) [
        | inl a ↦ omega (arith, less k ops a, regions_at_most k rest)
        | inr a ↦ let b : regions_has k rest ≡ true = rw a at h in omega (arith, at_most k ops, regions_less k rest b)
      ]

mutual
  -- what holds where k is inside o
  pub inside : (k o : OpName) (ops : Ops) → OpsDistinct ops → OpsWhere o (Holds_ k) ops → ops_has o ops ≡ true
      → Inside k o ops
  inside k o no_ops d w h = cc
  inside k o (op n kd ds os ts rs rest) d w h =
      elim (cases_Bool (eqb n.0 o.0)) [
        | inl e ↦
            let kin : regions_has k rs ≡ true = w.0 e in
            let nk : eqb n.0 k.0 ≡ false = not_here (λ x. regions_has x rs) n k d.0 kin in
            let kr : ops_has k rest ≡ false = d.1.1.0 k kin in
            let or_ : ops_has o rest ≡ false = rw (same n o e) at d.1.0 in
            let re = ops_absent k rest kr in
            record {
              has = or_right (eqb n.0 k.0) (regions_has k rs || ops_has k rest)
                  (or_left (regions_has k rs) (ops_has k rest) kin);
              same_rest = rw nk (rw e refl ∙ ap (ops_without o) re ∙ sym (rw e refl));
              below = rw (nk, e) (omega (arith, regions_below_count k rs d.1.1.1.0 kin, below_none k rest kr));
              fewer = rw nk (rw e (omega (arith, regions_less k rs kin, ap (ops_below o) re)));
              stays = rw nk (or_left (eqb n.0 o.0)
                  (regions_has o (regions_without k rs) || ops_has o (ops_without k rest)) e);
            }
        | inr e ↦ elim (cases_Bool (regions_has o rs)) [
          | inl a ↦
              let i = regions_inside k o rs d.1.1.1.0 w.1.0 a in
              let nk : eqb n.0 k.0 ≡ false = not_here (λ x. regions_has x rs) n k d.0 i.has in
              let kr : ops_has k rest ≡ false = d.1.1.0 k i.has in
              let or_ : ops_has o rest ≡ false = d.1.1.0 o a in
              let re = ops_absent k rest kr in
              record {
                has = or_right (eqb n.0 k.0) (regions_has k rs || ops_has k rest)
                    (or_left (regions_has k rs) (ops_has k rest) i.has);
                same_rest = rw nk (rw e (rw (i.same_rest, re) refl));
                below = rw (nk, e) (omega (arith, i.below, below_none k rest kr, below_none o rest or_));
                fewer = rw nk (rw e (omega (arith, i.fewer, ap (ops_below o) re)));
                stays = rw nk (or_right (eqb n.0 o.0)
                    (regions_has o (regions_without k rs) || ops_has o (ops_without k rest))
                    (or_left (regions_has o (regions_without k rs)) (ops_has o (ops_without k rest)) i.stays));
              }
          | inr a ↦
              let b : ops_has o rest ≡ true = rw (e, a) at h in
              let i = inside k o rest d.1.1.1.1 w.1.1 b in
              let nk : eqb n.0 k.0 ≡ false = not_here (λ x. ops_has x rest) n k d.1.0 i.has in
              let kr : regions_has k rs ≡ false =
              elim (cases_Bool (regions_has k rs))
              [ inl q ↦ let z : true ≡ false = sym i.has ∙ d.1.1.0 k q in cc | inr q ↦ q ] in
              let re = regions_absent k rs kr in
              record {
                has = or_right (eqb n.0 k.0) (regions_has k rs || ops_has k rest)
                    (or_right (regions_has k rs) (ops_has k rest) i.has);
                same_rest = rw nk (rw e (rw (i.same_rest, re) refl));
                below = rw (nk, e) (omega (arith, i.below, regions_below_none k rs kr, regions_below_none o rs a));
                fewer = rw nk (rw e (omega (arith, i.fewer, ap (regions_below o) re)));
                stays = rw nk (or_right (eqb n.0 o.0)
                    (regions_has o (regions_without k rs) || ops_has o (ops_without k rest))
                    (or_right (regions_has o (regions_without k rs)) (ops_has o (ops_without k rest)) i.stays));
              }
        ]
      ]

  pub regions_inside : (k o : OpName) (rs : Regions) → RegionsDistinct rs → RegionsWhere o (Holds_ k) rs
      → regions_has o rs ≡ true → RegionsInside k o rs
  regions_inside k o no_regions d w h = cc
  regions_inside k o (region args ops rest) d w h =
      elim (cases_Bool (ops_has o ops)) [
        | inl a ↦
            let i = inside k o ops d.1.0 w.0 a in
            let kr = d.0 k i.has in
            let re = regions_absent k rest kr in
            record {
              has = or_left (ops_has k ops) (regions_has k rest) i.has;
              same_rest = rw (i.same_rest, re) refl;
              below = omega (arith, i.below, regions_below_none k rest kr);
              fewer = omega (arith, i.fewer, ap (regions_below o) re);
              stays = or_left (ops_has o (ops_without k ops)) (regions_has o (regions_without k rest)) i.stays;
            }
        | inr a ↦
            let b : regions_has o rest ≡ true = rw a at h in
            let i = regions_inside k o rest d.1.1 w.1 b in
            let kr : ops_has k ops ≡ false =
            elim (cases_Bool (ops_has k ops))
            [ inl q ↦ let z : true ≡ false = sym i.has ∙ d.0 k q in cc | inr q ↦ q ] in
            let re = ops_absent k ops kr in
            record {
              has = or_right (ops_has k ops) (regions_has k rest) i.has;
              same_rest = rw (i.same_rest, re) refl;
              below = omega (arith, i.below, below_none k ops kr);
              fewer = omega (arith, i.fewer, ap (ops_below o) re);
              stays = or_right (ops_has o (ops_without k ops)) (regions_has o (regions_without k rest)) i.stays;
            }
      ]
