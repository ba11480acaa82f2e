-- A child put into a tree that was put is the tree with that child, put.
use Rattle.std.proofs.Common.{◌≡◌, ℕ, zero, suc}
use Rattle.std.proofs.Common.{refl, true, false, eqb, inl, inr}
use Rattle.std.proofs.lemmas.Bool.{cases_Bool, or_parts}
use Rattle.xf_ir.specs.declared.name.OpName.{OpName}
use Rattle.xf_ir.specs.Tree.{Ops, no_ops, op, Regions, no_regions, region, Tree}
use Rattle.xf_arena_tree.specs.Names.{ops_has, regions_has}
use Rattle.xf_ir.specs.Spots.{ops_insert, regions_insert}
use Rattle.xf_arena_tree.specs.Puts.{ops_put, regions_put}
use Rattle.xf_arena_tree.proofs.WithoutLemmas.{parts3}

-- with a child put at a place of its own
abbrev pub with_child : ℕ → ℕ → Tree → Tree → Tree
with_child k j c u = record u { regions = regions_insert k j c u.regions }

mutual
  pub ops_put_absent : (n : OpName) (k j : ℕ) (c : Tree) (ops : Ops) → ops_has n ops ≡ false → ops_put n k j c ops ≡ ops
  ops_put_absent n k j c no_ops h = refl
  ops_put_absent n k j c (op m kd ds os ts rs rest) h =
      let p = parts3 (eqb m.0 n.0) (regions_has n rs) (ops_has n rest) h in
      rw (p.0, regions_put_absent n k j c rs p.1.0, ops_put_absent n k j c rest p.1.1) refl

  pub regions_put_absent : (n : OpName) (k j : ℕ) (c : Tree) (rs : Regions) → regions_has n rs ≡ false
      → regions_put n k j c rs ≡ rs
  regions_put_absent n k j c no_regions h = refl
  regions_put_absent n k j c (region args ops rest) h =
      let p = or_parts (ops_has n ops) (regions_has n rest) h in
      rw (ops_put_absent n k j c ops p.0, regions_put_absent n k j c rest p.1) refl

insert_put : (n : OpName) (k j : ℕ) (c : Tree) (i : ℕ) (u : Tree) (ops : Ops) → eqb u.name.0 n.0 ≡ true
    → ops_has n ops ≡ false → ops_put n k j c (ops_insert i u ops) ≡ ops_insert i (with_child k j c u) ops
insert_put n k j c zero u ops e h = rw e refl
insert_put n k j c (suc i) u no_ops e h = refl
insert_put n k j c (suc i) u (op m kd ds os ts rs rest) e h =
    let p = parts3 (eqb m.0 n.0) (regions_has n rs) (ops_has n rest) h in
    rw (p.0, regions_put_absent n k j c rs p.1.0, insert_put n k j c i u rest e p.1.1) refl

insert_regions_put : (n : OpName) (k j : ℕ) (c : Tree) (r i : ℕ) (u : Tree) (rs : Regions) → eqb u.name.0 n.0 ≡ true
    → regions_has n rs ≡ false → regions_put n k j c (regions_insert r i u rs)
    ≡ regions_insert r i (with_child k j c u) rs
insert_regions_put n k j c r i u no_regions e h = refl
insert_regions_put n k j c zero i u (region args ops rest) e h =
    let p = or_parts (ops_has n ops) (regions_has n rest) h in
    rw (insert_put n k j c i u ops e p.0, regions_put_absent n k j c rest p.1) refl
insert_regions_put n k j c (suc r) i u (region args ops rest) e h =
    let p = or_parts (ops_has n ops) (regions_has n rest) h in
    rw (ops_put_absent n k j c ops p.0, insert_regions_put n k j c r i u rest e p.1) refl

mutual
  pub put_put : (n : OpName) (k j : ℕ) (c : Tree) (p : OpName) (r i : ℕ) (u : Tree) (ops : Ops)
      → eqb u.name.0 n.0 ≡ true → ops_has n ops ≡ false
      → ops_put n k j c (ops_put p r i u ops) ≡ ops_put p r i (with_child k j c u) ops
  put_put n k j c p r i u no_ops e h = refl
  put_put n k j c p r i u (op m kd ds os ts rs rest) e h =
      let q = parts3 (eqb m.0 n.0) (regions_has n rs) (ops_has n rest) h in
      elim (cases_Bool (eqb m.0 p.0)) [
        | inl t ↦ rw t (rw (q.0, insert_regions_put n k j c r i u rs e q.1.0, ops_put_absent n k j c rest q.1.1) refl)
        | inr t ↦ rw t (rw (q.0, regions_put_put n k j c p r i u rs e q.1.0, put_put n k j c p r i u rest e q.1.1) refl)
      ]

  pub regions_put_put : (n : OpName) (k j : ℕ) (c : Tree) (p : OpName) (r i : ℕ) (u : Tree) (rs : Regions)
      → eqb u.name.0 n.0 ≡ true → regions_has n rs ≡ false
      → regions_put n k j c (regions_put p r i u rs) ≡ regions_put p r i (with_child k j c u) rs
  regions_put_put n k j c p r i u no_regions e h = refl
  regions_put_put n k j c p r i u (region args ops rest) e h =
      let q = or_parts (ops_has n ops) (regions_has n rest) h in
      rw (put_put n k j c p r i u ops e q.0, regions_put_put n k j c p r i u rest e q.1) refl
