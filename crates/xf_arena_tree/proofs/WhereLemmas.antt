-- What holds at the operation of a name.
use Rattle.std.proofs.Common.{◌≡◌, ap, eqb, inl, inr}
use Rattle.std.specs.Prelude.{Some}
use Rattle.std.proofs.lemmas.Bool.{cases_Bool}
use Rattle.xf_ir.specs.declared.name.OpName.{OpName}
use Rattle.xf_ir.specs.Tree.{Ops, no_ops, op, Regions, no_regions, region, Tree}
use Rattle.xf_ir.specs.Walk.{ops_find, regions_find}
use Rattle.xf_ir.proofs.Found.{first_cases}
use Rattle.xf_arena_tree.specs.Without.{OpsWhere, RegionsWhere}

mutual
  pub where_map : (o : OpName) (Q R : Regions → Type 0) (ops : Ops) → ((rs : Regions) → Q rs → R rs) → OpsWhere o Q ops
      → OpsWhere o R ops
  where_map o Q R no_ops f w = tt
  where_map o Q R (op n k ds os ts rs rest) f w =
      ((λ e. f rs (w.0 e)), (regions_where_map o Q R rs f w.1.0, where_map o Q R rest f w.1.1))

  regions_where_map : (o : OpName) (Q R : Regions → Type 0) (rs : Regions) → ((rs : Regions) → Q rs → R rs)
      → RegionsWhere o Q rs → RegionsWhere o R rs
  regions_where_map o Q R no_regions f w = tt
  regions_where_map o Q R (region args ops rest) f w =
      (where_map o Q R ops f w.0, regions_where_map o Q R rest f w.1)

regions_are : (t x : Tree) → Some t ≡ Some x → t.regions ≡ x.regions
regions_are t x e = let q : t ≡ x = cc in ap (λ (y : Tree). y.regions) q

mutual
  pub where_found : (o : OpName) (Q : Regions → Type 0) (ops : Ops) (x : Tree) → OpsWhere o Q ops
      → ops_find o ops ≡ Some x → Q x.regions
  where_found o Q no_ops x w e = cc
  where_found o Q (op n k ds os ts rs rest) x w e =
      elim (cases_Bool (eqb n.0 o.0)) [
        | inl t ↦ (
            let here : Tree =
            record { name = n; kind = k; attrs = ds; operands = os; results = ts; regions = rs }
            in
            let q = regions_are here x (rw t at e) in
            rw (← q) (w.0 t))
        | inr f ↦ elim (first_cases (regions_find o rs) (ops_find o rest) x (rw f at e)) [
          | inl a ↦ regions_where_found o Q rs x w.1.0 a
          | inr a ↦ where_found o Q rest x w.1.1 a.1
        ]
      ]

  regions_where_found : (o : OpName) (Q : Regions → Type 0) (rs : Regions) (x : Tree) → RegionsWhere o Q rs
      → regions_find o rs ≡ Some x → Q x.regions
  regions_where_found o Q no_regions x w e = cc
  regions_where_found o Q (region args ops rest) x w e =
      elim (first_cases (ops_find o ops) (regions_find o rest) x e) [
        | inl a ↦ where_found o Q ops x w.0 a
        | inr a ↦ regions_where_found o Q rest x w.1 a.1
      ]
