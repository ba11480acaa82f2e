-- An operation that is moved, and moved back.
use Rattle.std.proofs.Common.{◌≡◌, ℕ, zero, suc, ◌≤◌, ◌++◌, Some, true, false, eqb, inl, inr, refl, sym, ap, ◌∙◌, subst}
use Rattle.std.proofs.Common.{arith}
use Rattle.std.proofs.lemmas.Bool.{cases_Bool, or_from, or_parts}
use Rattle.xf_ir.specs.declared.name.OpName.{OpName}
use Rattle.xf_ir.specs.declared.spot.Spot.{Spot}
use Rattle.xf_ir.specs.declared.spot.Located.{Located}
use Rattle.xf_ir.specs.Tree.{Ops, no_ops, op, Regions, no_regions, region, Tree}
use Rattle.xf_ir.specs.Walk.{ops_names, regions_names, tree_names, ops_find, regions_find}
use Rattle.xf_ir.specs.Lists.{same_name, is_among, Once}
use Rattle.xf_ir.specs.Spots.{tree_locate, tree_at_spot, ops_insert, regions_insert, ops_put, regions_put, tree_put}
use Rattle.xf_ir.specs.Spots.{ops_length, regions_get, IsSpot}
use Rattle.xf_ir.specs.Edits.{ops_at, regions_at, tail, tree_erased, moved, tree_moved}
use Rattle.xf_ir.proofs.Lists.{name_is, own_name, not_left, not_right, not_both, once_left, once_right, apart_names}
use Rattle.xf_ir.proofs.Found.{first_cases, lost_name, lost_name_regions, none_name, none_name_regions}
use Rattle.xf_ir.proofs.Found.{found_named_regions, found_name_regions}
use Rattle.xf_ir_laws.proofs.PutBack.{put_lacking_regions, put_lacking, put_erased, erased_back}
use Rattle.xf_ir.proofs.SpotLemmas.{located_tree}

-- ---- what is taken out has gone

mutual
  gone : (n : OpName) (ops : Ops) → Once (ops_names ops) → is_among n (ops_names (ops_at n tail ops)) ≡ false
  gone n no_ops o = refl
  gone n (op m k ds os ts rs rest) o =
      let ms = regions_names rs in
      let ns = ops_names rest in
      elim (cases_Bool (eqb m.0 n.0)) [
        | inl e ↦ rw e (not_right n ms ns (subst (λ q. is_among q (ms ++ ns) ≡ false) (name_is m n e) o.0))
        | inr e ↦ (
            let a = gone_regions n rs (once_left ms ns o.1) in
            let b = gone n rest (once_right ms ns o.1) in
            rw e (or_from (same_name m n)
            (is_among n (regions_names (regions_at n tail rs) ++ ops_names (ops_at n tail rest))) e
            (not_both n (regions_names (regions_at n tail rs)) (ops_names (ops_at n tail rest)) a b)))
      ]

  gone_regions : (n : OpName) (rs : Regions) → Once (regions_names rs)
      → is_among n (regions_names (regions_at n tail rs)) ≡ false
  gone_regions n no_regions o = refl
  gone_regions n (region args ops rest) o =
      let ms = ops_names ops in
      let ns = regions_names rest in
      not_both n (ops_names (ops_at n tail ops)) (regions_names (regions_at n tail rest))
      (gone n ops (once_left ms ns o)) (gone_regions n rest (once_right ms ns o))

-- where names occur once, one that is inside is not in what is left without it
pub gone_tree : (n : OpName) (root : Tree) → Once (tree_names root) → is_among n (regions_names root.regions) ≡ true
    → is_among n (tree_names (tree_erased n root)) ≡ false
gone_tree n root o h =
    or_from (same_name root.name n) (is_among n (regions_names (regions_at n tail root.regions)))
    (apart_names n root.name (regions_names root.regions) h o.0) (gone_regions n root.regions o.1)

-- ---- what is put at a spot is found

insert_found : (i : ℕ) (t : Tree) (ops : Ops) → i ≤ ops_length ops → is_among t.name (ops_names ops) ≡ false
    → ops_find t.name (ops_insert i t ops) ≡ Some t
insert_found zero t ops w h = (let o = own_name t.name in rw o refl)
insert_found (suc i) t no_ops w h = absurd (omega arith)
insert_found (suc i) t (op m k ds os ts rs rest) w h =
    let p = or_parts (same_name m t.name) (is_among t.name (regions_names rs ++ ops_names rest)) h in
    let a = lost_name_regions t.name rs (not_left t.name (regions_names rs) (ops_names rest) p.1) in
    let b = insert_found i t rest (omega arith) (not_right t.name (regions_names rs) (ops_names rest) p.1) in
    rw p.0 (rw (a, b) refl)

insert_found_regions : (r i : ℕ) (t : Tree) (rs : Regions) (block : Ops)
    → regions_get r rs ≡ Some block → i ≤ ops_length block → is_among t.name (regions_names rs) ≡ false
    → regions_find t.name (regions_insert r i t rs) ≡ Some t
insert_found_regions r i t no_regions block g w h = absurd (cc)
insert_found_regions zero i t (region args ops rest) block g w h =
    let e : block ≡ ops = cc in
    let a = insert_found i t ops (subst (λ b. i ≤ ops_length b) e w)
    (not_left t.name (ops_names ops) (regions_names rest) h) in
    rw a refl
insert_found_regions (suc r) i t (region args ops rest) block g w h =
    let a = lost_name t.name ops (not_left t.name (ops_names ops) (regions_names rest) h) in
    let b = insert_found_regions r i t rest block g w (not_right t.name (ops_names ops) (regions_names rest) h) in
    rw (a, b) refl

module _ (s : Spot) (t parent : Tree) (block : Ops) (has : regions_get s.region parent.regions
    ≡ Some block) (within : s.at ≤ ops_length block) where
  mutual
    put_found : (ops : Ops) → ops_find s.parent ops ≡ Some parent → is_among t.name (ops_names ops) ≡ false
        → ops_find t.name (ops_put s t ops) ≡ Some t
    put_found no_ops f h = absurd (cc)
    put_found (op m k ds os ts rs rest) f h =
        let p = or_parts (same_name m t.name) (is_among t.name (regions_names rs ++ ops_names rest)) h in
        let l = not_left t.name (regions_names rs) (ops_names rest) p.1 in
        elim (cases_Bool (eqb m.0 s.parent.0)) [
          | inl e ↦ (
              let f' = rw e at f in
              let q : parent.regions ≡ rs = cc in
              let a = insert_found_regions s.region s.at t rs block
              (subst (λ x. regions_get s.region x ≡ Some block) q has) within l in
              rw p.0 (rw e (rw a refl)))
          | inr e ↦ elim (first_cases (regions_find s.parent rs) (ops_find s.parent rest) parent (rw e at f)) [
            | inl g ↦ (let a = put_found_regions rs g l in rw p.0 (rw e (rw a refl)))
            | inr g ↦ (
                let u = put_lacking_regions rs s t (none_name_regions s.parent rs g.0) in
                let a = lost_name_regions t.name rs l in
                let b = put_found rest g.1 (not_right t.name (regions_names rs) (ops_names rest) p.1) in
                rw p.0 (rw e (rw (u, a, b) refl)))
          ]
        ]

    put_found_regions : (rs : Regions) → regions_find s.parent rs ≡ Some parent
        → is_among t.name (regions_names rs) ≡ false → regions_find t.name (regions_put s t rs) ≡ Some t
    put_found_regions no_regions f h = absurd (cc)
    put_found_regions (region args ops rest) f h =
        let l = not_left t.name (ops_names ops) (regions_names rest) h in
        let r = not_right t.name (ops_names ops) (regions_names rest) h in
        elim (first_cases (ops_find s.parent ops) (regions_find s.parent rest) parent f) [
          | inl g ↦ (let a = put_found ops g l in rw a refl)
          | inr g ↦ (
              let u = put_lacking ops s t (none_name s.parent ops g.0) in
              let a = lost_name t.name ops l in
              let b = put_found_regions rest g.1 r in
              rw (u, a, b) refl)
        ]

pub put_found_tree : (s : Spot) (t root : Tree) → IsSpot s root → is_among t.name (tree_names root) ≡ false
    → regions_find t.name (tree_put s t root).regions ≡ Some t
put_found_tree s t root i h =
    let p = or_parts (same_name root.name t.name) (is_among t.name (regions_names root.regions)) h in
    elim (cases_Bool (eqb root.name.0 s.parent.0)) [
      | inl e ↦ (
          let f = rw e at i.found in
          let q : i.parent.regions ≡ root.regions = cc in
          let a = insert_found_regions s.region s.at t root.regions i.block
          (subst (λ x. regions_get s.region x ≡ Some i.block) q i.has) i.within p.1 in
          rw e a)
      | inr e ↦ (
          let f = rw e at i.found in
          let a = put_found_regions s t i.parent i.block i.has i.within root.regions f p.1 in
          rw e a)
    ]

-- ---- moved and moved back

module _ (name : OpName) (to : Spot) (root t : Tree) (o : Once (tree_names root)) (h : regions_find name root.regions
    ≡ Some t) (i : IsSpot to (tree_erased name root)) where
  abbrev left : Tree
  left = tree_erased name root

  abbrev put : Tree
  put = tree_put to t left

  named : t.name ≡ name
  named = found_named_regions name t root.regions h

  lacks : is_among t.name (tree_names left) ≡ false
  lacks = subst (λ q. is_among q (tree_names left)
      ≡ false) (sym named) (gone_tree name root o (found_name_regions name t root.regions h))

  again : regions_find name put.regions ≡ Some t
  again = subst (λ q. regions_find q put.regions ≡ Some t) named (put_found_tree to t left i lacks)

  out : tree_erased name put ≡ left
  out = subst (λ q. tree_erased q put ≡ left) named (put_erased to t left lacks)

  there : tree_moved name to root ≡ put
  there = ap (λ o. moved name to o root) h

  -- what is moved is found, and without it the same is left as before
  pub moved_found : regions_find name (tree_moved name to root).regions ≡ Some t
  moved_found = ap (λ (u : Tree). regions_find name u.regions) there ∙ again

  pub moved_left : tree_erased name (tree_moved name to root) ≡ tree_erased name root
  moved_left = ap (tree_erased name) there ∙ out

  pub moved_back : (x : Located) → tree_locate name root ≡ Some x
      → tree_moved name x.spot (tree_moved name to root) ≡ root
  moved_back x l =
      let tree : Some x.tree ≡ Some t = ap tree_at_spot (sym l) ∙ located_tree name root.name 0 root.regions ∙ h in
      let same : x.tree ≡ t = cc in
      let back : tree_moved name x.spot put ≡ tree_put x.spot t left = ap (λ o. moved name x.spot o put) again
      ∙ ap (tree_put x.spot t) out in
      ap (tree_moved name x.spot) there ∙ back ∙ ap (λ u. tree_put x.spot u left) (sym same)
      ∙ erased_back root name x o l
