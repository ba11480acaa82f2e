-- An operation of a tree is one of those that the operation of its spot holds.
use Rattle.std.proofs.Common.{◌≡◌, ℕ, suc, ◌+◌, ◌≤◌, List, [], ◌∷◌, sym, ◌∙◌, ap, arith, refl}
use Rattle.std.proofs.Common.{Bool, true, false, eqb, ◌||◌, ◌⊎◌, inl, inr}
use Rattle.std.specs.Prelude.{Option, Some, None}
use Rattle.std.proofs.lemmas.Bool.{eq-eqb, ne_eqb, eqb-true, cases_Bool}
use Rattle.xf_type.specs.declared.payload_type.PayloadType.{PayloadType}
use Rattle.xf_ir.specs.declared.kind.Attr.{Attr}
use Rattle.xf_ir.specs.declared.kind.Kind.{Kind}
use Rattle.xf_ir.specs.declared.name.OpName.{OpName}
use Rattle.xf_ir.specs.declared.name.ValueName.{ValueName}
use Rattle.xf_ir.specs.declared.spot.Spot.{Spot}
use Rattle.xf_ir.specs.declared.spot.Located.{Located}
use Rattle.xf_ir.specs.Tree.{Ops, no_ops, op, Regions, no_regions, region, Tree, cons}
use Rattle.xf_ir.specs.Walk.{first_of, ops_find, regions_find, tree_find}
use Rattle.xf_ir.specs.Spots.{ops_locate, regions_locate, tree_locate, spot_at}
use Rattle.xf_ir.proofs.SpotLemmas.{located_tree, no_tree}
use Rattle.xf_arena_tree.specs.Names.{ops_has, regions_has, OpsDistinct, RegionsDistinct}
use Rattle.xf_arena_tree.specs.Kids.{Inner, block_inner, inner_of}
use Rattle.xf_arena_tree.proofs.InnerLemmas.{not_here}
use Rattle.xf_arena_tree.proofs.SplitLemmas.{find_has, find_has_regions}
use Rattle.xf_arena_tree.proofs.WithoutLemmas.{parts3}
use Rattle.xf_arena_bed.specs.Homes.{count_before}
use Rattle.xf_arena_bed.proofs.FindLemmas.{ops_lost, regions_lost}
use Rattle.xf_arena_bed.proofs.KidRows.{find_is}

-- ---- among those that one holds

-- the first one of a name is among these, in that region
abbrev pub IsKid : OpName → ℕ → List Inner → Type 0
IsKid x r [] = ⊥
IsKid x r (k ∷ ks) = (k ≡ record { name = x; region = r }) ⊎ ((eqb k.name.0 x.0 ≡ false) × IsKid x r ks)

kid_later : (x : OpName) (r q : ℕ) (ops : Ops) (more : List Inner) → ops_has x ops ≡ false → IsKid x r more
    → IsKid x r (block_inner q ops more)
kid_later x r q no_ops more f h = h
kid_later x r q (op n k ds os ts rs rest) more f h =
    let p = parts3 (eqb n.0 x.0) (regions_has x rs) (ops_has x rest) f in
    inr (p.0, kid_later x r q rest more p.1.1 h)

-- a block of another region counts for nothing
block_skipped : (x : OpName) (r q : ℕ) (ops : Ops) (more : List Inner) → ops_has x ops ≡ false → (q ≡ r → ⊥)
    → count_before x r (block_inner q ops more) ≡ count_before x r more
block_skipped x r q no_ops more h d = refl
block_skipped x r q (op n k ds os ts rs rest) more h d =
    let p = parts3 (eqb n.0 x.0) (regions_has x rs) (ops_has x rest) h in
    let e = ne_eqb q r d in
    rw (p.0, e) (block_skipped x r q rest more p.1.1 d)

-- ---- the spot of a name

-- the spot is in this rest of the block r of p, which begins with its operation i
pub record InBlock (x p : OpName) (r i : ℕ) (ops : Ops) (s : Spot) : Type 0 where
  pub parent : s.parent ≡ p
  pub region : s.region ≡ r
  pub at : (more : List Inner) → s.at ≡ i + count_before x r (block_inner r ops more)
  pub kid : (more : List Inner) → IsKid x r (block_inner r ops more)

-- the spot is in one of these blocks of p, which begin with block q
pub record InRegions (x p : OpName) (q : ℕ) (rs : Regions) (s : Spot) : Type 0 where
  pub parent : s.parent ≡ p
  pub region : q ≤ s.region
  pub at : s.at ≡ count_before x s.region (inner_of q rs)
  pub kid : IsKid x s.region (inner_of q rs)

-- the spot is in an operation that is found
pub record InFound (x : OpName) (found : OpName → Option Tree) (s : Spot) : Type 0 where
  pub holder : Tree
  pub is : found s.parent ≡ Some holder
  pub name : holder.name ≡ s.parent
  pub at : s.at ≡ count_before x s.region (inner_of 0 holder.regions)
  pub kid : IsKid x s.region (inner_of 0 holder.regions)

first_spot : (a b : Option Located) (s : Spot) → spot_at a ≡ Some s → spot_at (first_of a b) ≡ Some s
first_spot None b s e = cc
first_spot (Some l) b s e = e

regions_unlocated : (x p : OpName) (q : ℕ) (rs : Regions) → regions_has x rs ≡ false → regions_locate x p q rs ≡ None
regions_unlocated x p q rs h = no_tree (regions_locate x p q rs) (located_tree x p q rs ∙ regions_lost x rs h)

ops_unlocated : (x p : OpName) (r i : ℕ) (ops : Ops) → ops_has x ops ≡ false → ops_locate x p r i ops ≡ None
ops_unlocated x p r i no_ops h = refl
ops_unlocated x p r i (op n k ds os ts rs rest) h =
    let q = parts3 (eqb n.0 x.0) (regions_has x rs) (ops_has x rest) h in
    rw (q.0, regions_unlocated x n 0 rs q.1.0, ops_unlocated x p r (i + 1) rest q.1.1) refl

not_both : (f g : OpName → Bool) (o : OpName) → ((x : OpName) → f x ≡ true → g x ≡ false) → g o ≡ true → f o ≡ false
not_both f g o d h = elim (cases_Bool (f o)) [
  | inl a ↦ (let z : true ≡ false = sym h ∙ d o a in cc)
  | inr a ↦ a
]

block_here : (x p : OpName) (r i : ℕ) (n : OpName) (k : Kind) (ds : List Attr) (os : List ValueName)
    (ts : List PayloadType) (rs : Regions) (rest : Ops) → eqb n.0 x.0 ≡ true
    → InBlock x p r i (op n k ds os ts rs rest) (record { parent = p; region = r; at = i })
block_here x p r i n k ds os ts rs rest e =
    let mk : ℕ → Inner = λ j. record { name = record { 0 = j }; region = r } in
    record {
      parent = refl;
      region = refl;
      at = λ more. rw e (omega arith);
      kid = λ more. inl (ap mk (eqb-true n.0 x.0 e));
    }

-- behind an operation of another name
block_behind : (x p : OpName) (r i : ℕ) (n : OpName) (k : Kind) (ds : List Attr) (os : List ValueName)
    (ts : List PayloadType) (rs : Regions) (rest : Ops) (s : Spot) → eqb n.0 x.0 ≡ false → ops_has n rest ≡ false
    → ((y : OpName) → regions_has y rs ≡ true → ops_has y rest ≡ false)
    → InBlock x p r (i + 1) rest s ⊎ InFound x (λ m. ops_find m rest) s
    → InBlock x p r i (op n k ds os ts rs rest) s ⊎ InFound x (λ m. ops_find m (op n k ds os ts rs rest)) s
block_behind x p r i n k ds os ts rs rest s f d1 d2 g = elim g [
  | inl o ↦ inl (record {
    parent = o.parent;
    region = o.region;
    at = λ more. rw (f, eq-eqb r r refl) (omega (arith, o.at more));
    kid = λ more. inr (f, o.kid more);
  })
  | inr w ↦ (
      let has = find_has s.parent rest w.holder w.is in
      let other = not_here (λ m. ops_has m rest) n s.parent d1 has in
      let lost = regions_lost s.parent rs (not_both (λ y. regions_has y rs) (λ y. ops_has y rest) s.parent d2 has) in
      inr (record { holder = w.holder; is = rw (other, lost) w.is; name = w.name; at = w.at; kid = w.kid }))
]

-- inside an operation
found_inside : (x n : OpName) (k : Kind) (ds : List Attr) (os : List ValueName) (ts : List PayloadType) (rs : Regions)
    (rest : Ops) (s : Spot) → regions_has n rs ≡ false
    → InRegions x n 0 rs s ⊎ InFound x (λ m. regions_find m rs) s
    → InFound x (λ m. ops_find m (op n k ds os ts rs rest)) s
found_inside x n k ds os ts rs rest s d g = elim g [
  | inl o ↦ (
      let e : eqb n.0 s.parent.0 ≡ true = eq-eqb n.0 s.parent.0 (ap (λ (m : OpName). m.0) (sym o.parent)) in
      record {
        holder = record { name = n; kind = k; attrs = ds; operands = os; results = ts; regions = rs };
        is = rw e refl;
        name = sym o.parent;
        at = o.at;
        kid = o.kid;
      })
  | inr w ↦ (
      let other = not_here (λ m. regions_has m rs) n s.parent d (find_has_regions s.parent rs w.holder w.is) in
      record { holder = w.holder; is = rw (other, w.is) refl; name = w.name; at = w.at; kid = w.kid })
]

-- in the first of some blocks
regions_here : (x p : OpName) (q : ℕ) (args : List PayloadType) (ops : Ops) (rest : Regions) (s : Spot)
    → InBlock x p q 0 ops s ⊎ InFound x (λ m. ops_find m ops) s
    → InRegions x p q (region args ops rest) s ⊎ InFound x (λ m. regions_find m (region args ops rest)) s
regions_here x p q args ops rest s g = elim g [
  | inl o ↦ inl (record {
    parent = o.parent;
    region = (let e = o.region in omega arith);
    at = rw o.region (omega (arith, o.at (inner_of (suc q) rest)));
    kid = rw o.region (o.kid (inner_of (suc q) rest));
  })
  | inr w ↦ inr (record { holder = w.holder; is = rw w.is refl; name = w.name; at = w.at; kid = w.kid })
]

-- in a later one
regions_later : (x p : OpName) (q : ℕ) (args : List PayloadType) (ops : Ops) (rest : Regions) (s : Spot)
    → ops_has x ops ≡ false → ((y : OpName) → ops_has y ops ≡ true → regions_has y rest ≡ false)
    → InRegions x p (q + 1) rest s ⊎ InFound x (λ m. regions_find m rest) s
    → InRegions x p q (region args ops rest) s ⊎ InFound x (λ m. regions_find m (region args ops rest)) s
regions_later x p q args ops rest s h d g =
    let next : q + 1 ≡ suc q = omega arith in
    elim g [
      | inl o ↦ (
          let far = o.region in
          let skip = block_skipped x s.region q ops (inner_of (suc q) rest) h (λ e. omega arith) in
          inl (record {
            parent = o.parent;
            region = omega arith;
            at = (rw next at o.at) ∙ sym skip;
            kid = kid_later x s.region q ops (inner_of (suc q) rest) h (rw next at o.kid);
          }))
      | inr w ↦ (
          let has = find_has_regions s.parent rest w.holder w.is in
          let lost = ops_lost s.parent ops (not_both (λ y. ops_has y ops) (λ y. regions_has y rest) s.parent d has) in
          inr (record { holder = w.holder; is = rw lost w.is; name = w.name; at = w.at; kid = w.kid }))
    ]

mutual
  ops_held : (x p : OpName) (r i : ℕ) (ops : Ops) → OpsDistinct ops → ops_has x ops ≡ true
      → (s : Spot) × ((spot_at (ops_locate x p r i ops) ≡ Some s)
      × (InBlock x p r i ops s ⊎ InFound x (λ m. ops_find m ops) s))
  ops_held x p r i no_ops d h = cc
  ops_held x p r i (op n k ds os ts rs rest) d h =
      elim (cases_Bool (eqb n.0 x.0)) [
        | inl e ↦
            (record { parent = p; region = r; at = i }, (rw e refl, inl (block_here x p r i n k ds os ts rs rest e)))
        | inr f ↦ elim (cases_Bool (regions_has x rs)) [
          | inl a ↦
              let g = regions_held x n 0 rs d.1.1.1.0 a in
              let here = first_spot (regions_locate x n 0 rs) (ops_locate x p r (i + 1) rest) g.0 g.1.0 in
              (g.0, (rw f here, inr (found_inside x n k ds os ts rs rest g.0 d.0 g.1.1)))
          | inr a ↦
              let b : ops_has x rest ≡ true = rw (f, a) at h in
              let g = ops_held x p r (i + 1) rest d.1.1.1.1 b in (
                g.0,
                (
                  rw (f, regions_unlocated x n 0 rs a) g.1.0,
                  block_behind x p r i n k ds os ts rs rest g.0 f d.1.0 d.1.1.0 g.1.1,
                ),
              )
        ]
      ]

  regions_held : (x p : OpName) (q : ℕ) (rs : Regions) → RegionsDistinct rs → regions_has x rs ≡ true
      → (s : Spot) × ((spot_at (regions_locate x p q rs) ≡ Some s)
      × (InRegions x p q rs s ⊎ InFound x (λ m. regions_find m rs) s))
  regions_held x p q no_regions d h = cc
  regions_held x p q (region args ops rest) d h =
      elim (cases_Bool (ops_has x ops)) [
        | inl a ↦
            let g = ops_held x p q 0 ops d.1.0 a in
            let here = first_spot (ops_locate x p q 0 ops) (regions_locate x p (q + 1) rest) g.0 g.1.0 in
            (g.0, (here, regions_here x p q args ops rest g.0 g.1.1))
        | inr a ↦
            let b : regions_has x rest ≡ true = rw a at h in
            let g = regions_held x p (q + 1) rest d.1.1 b in
            (g.0, (rw (ops_unlocated x p q 0 ops a) g.1.0, regions_later x p q args ops rest g.0 a d.0 g.1.1))
      ]

-- ---- in a whole tree

-- the spot of a name, in the operation around it
pub record Held (x : OpName) (root : Tree) (s : Spot) : Type 0 where
  pub located : spot_at (tree_locate x root) ≡ Some s
  pub holder : Tree
  pub found : tree_find s.parent root ≡ Some holder
  pub name : holder.name ≡ s.parent
  pub at : s.at ≡ count_before x s.region (inner_of 0 holder.regions)
  pub kid : IsKid x s.region (inner_of 0 holder.regions)

pub tree_held : (x : OpName) (root : Tree) → OpsDistinct (cons root no_ops) → ops_has x (cons root no_ops) ≡ true
    → eqb root.name.0 x.0 ≡ false → (s : Spot) × Held x root s
tree_held x root d h f =
    let a : regions_has x root.regions ≡ true = inside (regions_has x root.regions) (rw f at h) in
    let g = regions_held x root.name 0 root.regions d.1.1.1.0 a in
    let w = found_inside x root.name root.kind root.attrs root.operands root.results root.regions no_ops g.0 d.0
    g.1.1 in (
      g.0,
      record {
        located = g.1.0;
        holder = w.holder;
        found = sym (find_is g.0.parent root) ∙ w.is;
        name = w.name;
        at = w.at;
        kid = w.kid;
      },
    )
  where
    inside : (b : Bool) → (b || false) ≡ true → b ≡ true
    inside true e = refl
    inside false e = e

-- the root stands nowhere
pub root_unlocated : (x : OpName) (root : Tree) → OpsDistinct (cons root no_ops) → eqb root.name.0 x.0 ≡ true
    → tree_locate x root ≡ None
root_unlocated x root d e =
    let mk : ℕ → OpName = λ j. record { 0 = j } in
    let q : root.name ≡ x = ap mk (eqb-true root.name.0 x.0 e) in
    regions_unlocated x root.name 0 root.regions (rw q at d.0)
