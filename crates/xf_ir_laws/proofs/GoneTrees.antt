-- A tree that is taken out: its names are gone from what is left, and its spot is one of it.
use Rattle.std.proofs.Common.{◌≡◌, ◌⊎◌, ℕ, zero, suc, ◌<◌, List, [], ◌∷◌, ◌++◌, Some, None, true, false, eqb, inl, inr}
use Rattle.std.proofs.Common.{refl, sym, ◌∙◌, subst, arith}
use Rattle.std.proofs.lemmas.Bool.{cases_Bool, cases_lt, or_from, or_parts}
use Rattle.xf_ir.specs.declared.name.OpName.{OpName}
use Rattle.xf_ir.specs.declared.spot.Spot.{Spot}
use Rattle.xf_ir.specs.declared.spot.Located.{Located}
use Rattle.xf_ir.specs.Tree.{Ops, no_ops, op, Regions, no_regions, region, Tree}
use Rattle.xf_ir.specs.Walk.{ops_names, regions_names, tree_names, ops_find, regions_find, tree_find}
use Rattle.xf_ir.specs.Lists.{Each, same_name, is_among, Once}
use Rattle.xf_ir.specs.Spots.{tree_locate, ops_insert, regions_insert, ops_put, regions_put, tree_put, ops_length}
use Rattle.xf_ir.specs.Spots.{regions_get, IsSpot}
use Rattle.xf_ir.specs.Edits.{ops_at, regions_at, tail, tree_erased}
use Rattle.xf_ir.proofs.Lists.{not_left, not_right, not_both, once_left, once_right, once_apart, absent_before}
use Rattle.xf_ir.proofs.Lists.{apart_names, Part, none, skip, keep, part_all, part_none, not_part, once_part}
use Rattle.xf_ir.proofs.Found.{tree, first_cases, some_or_none, tree_none_name, OpsWhere, RegionsWhere}
use Rattle.xf_ir.proofs.Found.{where_found_regions}
use Rattle.xf_ir_laws.proofs.Erased.{names_part, names_part_regions}
use Rattle.xf_ir_laws.proofs.PutBack.{put_lacking_regions, erased_back, among_own, among_behind}
use Rattle.xf_ir_laws.proofs.MovedBack.{gone_tree}

-- ---- the names of an operation that is found

part_before : {A : Type 0} {us xs : List A} (ys : List A) → Part us xs → Part us (xs ++ ys)
part_before ys none = part_none ys
part_before ys (skip p) = skip (part_before ys p)
part_before ys (keep p) = keep (part_before ys p)

part_after : {A : Type 0} {us ys : List A} (xs : List A) → Part us ys → Part us (xs ++ ys)
part_after [] p = p
part_after (x ∷ xs) p = skip (part_after xs p)

among_part : (n : OpName) {ys xs : List OpName} → Part ys xs → is_among n ys ≡ true → is_among n xs ≡ true
among_part n none h = h
among_part n (skip {x = x} {xs = xs} p) h = among_behind n x xs (among_part n p h)
among_part n (keep {x = x} p) h =
    elim (cases_Bool (same_name x n)) [
      | inl t ↦ rw t refl
      | inr f ↦ (let a = among_part n p (rw f at h) in rw (f, a) refl)
    ]

mutual
  found_part_ops : (n : OpName) (ops : Ops) (t : Tree) → ops_find n ops ≡ Some t → Part (tree_names t) (ops_names ops)
  found_part_ops n no_ops t h = absurd (cc)
  found_part_ops n (op m k ds os ts rs rest) t h =
      let ms = regions_names rs in
      let ns = ops_names rest in
      elim (cases_Bool (eqb m.0 n.0)) [
        | inl e ↦ (
            let h' = rw e at h in
            let q : tree m k ds os ts rs ≡ t = cc in
            subst (λ x. Part (tree_names x) (m ∷ (ms ++ ns))) q (keep (part_before ns (part_all ms))))
        | inr e ↦ elim (first_cases (regions_find n rs) (ops_find n rest) t (rw e at h)) [
          | inl g ↦ skip (part_before ns (found_part n rs t g))
          | inr g ↦ skip (part_after ms (found_part_ops n rest t g.1))
        ]
      ]

  -- they are some of all names, in their order
  pub found_part : (n : OpName) (rs : Regions) (t : Tree) → regions_find n rs ≡ Some t
      → Part (tree_names t) (regions_names rs)
  found_part n no_regions t h = absurd (cc)
  found_part n (region args ops rest) t h =
      elim (first_cases (ops_find n ops) (regions_find n rest) t h) [
        | inl g ↦ part_before (regions_names rest) (found_part_ops n ops t g)
        | inr g ↦ part_after (ops_names ops) (found_part n rest t g.1)
      ]

-- ---- are gone without it

mutual
  gone_ops : (n m : OpName) (ops : Ops) (t : Tree) → Once (ops_names ops) → ops_find n ops ≡ Some t
      → is_among m (tree_names t) ≡ true → is_among m (ops_names (ops_at n tail ops)) ≡ false
  gone_ops n m no_ops t o h i = absurd (cc)
  gone_ops n m (op a k ds os ts rs rest) t o h i =
      let ms = regions_names rs in
      let ns = ops_names rest in
      let ms' = regions_names (regions_at n tail rs) in
      let ns' = ops_names (ops_at n tail rest) in
      elim (cases_Bool (eqb a.0 n.0)) [
        | inl e ↦ (
            let h' = rw e at h in
            let q : t ≡ tree a k ds os ts rs = cc in
            let j : is_among m (a ∷ ms) ≡ true = subst (λ x. is_among m (tree_names x) ≡ true) q i in
            rw e (once_apart m (a ∷ ms) ns o j))
        | inr e ↦ elim (first_cases (regions_find n rs) (ops_find n rest) t (rw e at h)) [
          | inl g ↦ (
              let j = among_part m (found_part n rs t g) i in
              let d = apart_names m a ms j (not_left a ms ns o.0) in
              let b = not_part m (names_part n rest) (once_apart m ms ns o.1 j) in
              rw e (or_from (same_name a m) (is_among m (ms' ++ ns')) d
              (not_both m ms' ns' (gone_regions n m rs t (once_left ms ns o.1) g i) b)))
          | inr g ↦ (
              let j = among_part m (found_part_ops n rest t g.1) i in
              let d = apart_names m a ns j (not_right a ms ns o.0) in
              let b = not_part m (names_part_regions n rs) (absent_before m ms ns o.1 j) in
              rw e (or_from (same_name a m) (is_among m (ms' ++ ns')) d
              (not_both m ms' ns' b (gone_ops n m rest t (once_right ms ns o.1) g.1 i))))
        ]
      ]

  gone_regions : (n m : OpName) (rs : Regions) (t : Tree) → Once (regions_names rs) → regions_find n rs ≡ Some t
      → is_among m (tree_names t) ≡ true → is_among m (regions_names (regions_at n tail rs)) ≡ false
  gone_regions n m no_regions t o h i = absurd (cc)
  gone_regions n m (region args ops rest) t o h i =
      let ms = ops_names ops in
      let ns = regions_names rest in
      let ms' = ops_names (ops_at n tail ops) in
      let ns' = regions_names (regions_at n tail rest) in
      elim (first_cases (ops_find n ops) (regions_find n rest) t h) [
        | inl g ↦ (
            let j = among_part m (found_part_ops n ops t g) i in
            not_both m ms' ns' (gone_ops n m ops t (once_left ms ns o) g i)
            (not_part m (names_part_regions n rest) (once_apart m ms ns o j)))
        | inr g ↦ (
            let j = among_part m (found_part n rest t g.1) i in
            not_both m ms' ns' (not_part m (names_part n ops) (absent_before m ms ns o j))
            (gone_regions n m rest t (once_right ms ns o) g.1 i))
      ]

each_among : (P : OpName → Type 0) (xs : List OpName) → ((x : OpName) → is_among x xs ≡ true → P x) → Each P xs
each_among P [] f = tt
each_among P (x ∷ xs) f = (f x (among_own x xs), each_among P xs (λ y h. f y (among_behind y x xs h)))

-- where names occur once, none of the operation that is taken out is in what is left
pub all_gone : (n : OpName) (root t : Tree) → Once (tree_names root) → regions_find n root.regions ≡ Some t
    → Each (λ m. is_among m (tree_names (tree_erased n root)) ≡ false) (tree_names t)
all_gone n root t o h =
    each_among (λ m. is_among m (tree_names (tree_erased n root)) ≡ false) (tree_names t)
    (λ m i. let j = among_part m (found_part n root.regions t h) i in
    or_from (same_name root.name m) (is_among m (regions_names (regions_at n tail root.regions)))
    (apart_names m root.name (regions_names root.regions) j o.0) (gone_regions n m root.regions t o.1 h i))

-- ---- what is put at no spot changes nothing

insert_past : (i : ℕ) (t : Tree) (ops : Ops) → ops_length ops < i → ops_insert i t ops ≡ ops
insert_past zero t ops h = absurd (omega (arith, h))
insert_past (suc i) t no_ops h = refl
insert_past (suc i) t (op n k ds os ts rs rest) h = (let a = insert_past i t rest (omega (arith, h)) in rw a refl)

insert_past_regions : (r i : ℕ) (t : Tree) (rs : Regions) (block : Ops) → regions_get r rs ≡ Some block
    → ops_length block < i → regions_insert r i t rs ≡ rs
insert_past_regions r i t no_regions block g w = refl
insert_past_regions zero i t (region args ops rest) block g w =
    let e : block ≡ ops = cc in
    let a = insert_past i t ops (subst (λ b. ops_length b < i) e w) in
    rw a refl
insert_past_regions (suc r) i t (region args ops rest) block g w =
    (let a = insert_past_regions r i t rest block g w in rw a refl)

insert_nowhere : (r i : ℕ) (t : Tree) (rs : Regions) → regions_get r rs ≡ None → regions_insert r i t rs ≡ rs
insert_nowhere r i t no_regions g = refl
insert_nowhere zero i t (region args ops rest) g = absurd (cc)
insert_nowhere (suc r) i t (region args ops rest) g = (let a = insert_nowhere r i t rest g in rw a refl)

-- in the operation that is the spot's parent
abbrev Stays : Spot → Tree → Tree → Type 0
Stays s t parent = regions_insert s.region s.at t parent.regions ≡ parent.regions

mutual
  put_stays : (s : Spot) (t : Tree) (ops : Ops) → OpsWhere s.parent (Stays s t) ops → ops_put s t ops ≡ ops
  put_stays s t no_ops w = refl
  put_stays s t (op n k ds os ts rs rest) w =
      let a = put_stays_regions s t rs w.1.0 in
      let b = put_stays s t rest w.1.1 in
      elim (cases_Bool (eqb n.0 s.parent.0)) [
        | inl e ↦ (let d : regions_insert s.region s.at t rs ≡ rs = w.0 e in rw e (rw (d, b) refl))
        | inr e ↦ rw e (rw (a, b) refl)
      ]

  put_stays_regions : (s : Spot) (t : Tree) (rs : Regions) → RegionsWhere s.parent (Stays s t) rs
      → regions_put s t rs ≡ rs
  put_stays_regions s t no_regions w = refl
  put_stays_regions s t (region args ops rest) w =
      (let a = put_stays s t ops w.0 in let b = put_stays_regions s t rest w.1 in rw (a, b) refl)

stays_put : (s : Spot) (t root parent : Tree) → Once (tree_names root) → tree_find s.parent root ≡ Some parent
    → Stays s t parent → tree_put s t root ≡ root
stays_put s t root parent o h k =
    elim (cases_Bool (eqb root.name.0 s.parent.0)) [
      | inl e ↦ (
          let h' = rw e at h in
          let q : parent ≡ root = cc in
          let d : regions_insert s.region s.at t root.regions ≡ root.regions = subst (Stays s t) q k in
          rw e (rw d refl))
      | inr e ↦ (let d = put_stays_regions s t root.regions
          (where_found_regions s.parent (Stays s t) parent root.regions o.1 (rw e at h) k) in rw e (rw d refl))
    ]

lacks_put : (s : Spot) (t root : Tree) → tree_find s.parent root ≡ None → tree_put s t root ≡ root
lacks_put s t root h =
    let p = or_parts (same_name root.name s.parent) (is_among s.parent (regions_names root.regions))
    (tree_none_name s.parent root h) in
    let d = put_lacking_regions root.regions s t p.1 in
    rw p.0 (rw d refl)

spot_or_same : (s : Spot) (t root : Tree) → Once (tree_names root) → IsSpot s root ⊎ (tree_put s t root ≡ root)
spot_or_same s t root o =
    elim (some_or_none (tree_find s.parent root)) [ inl p ↦ inside p.0 p.1 | inr h ↦ inr (lacks_put s t root h) ]
  where
    inside : (parent : Tree) → tree_find s.parent root ≡ Some parent → IsSpot s root ⊎ (tree_put s t root ≡ root)
    inside parent h =
        elim (some_or_none (regions_get s.region parent.regions)) [
          | inl b ↦ elim (cases_lt (ops_length b.0) s.at) [
            | inl w ↦ inr (stays_put s t root parent o h (insert_past_regions s.region s.at t parent.regions b.0 b.1 w))
            | inr w ↦ inl (record { parent = parent; found = h; block = b.0; has = b.1; within = w })
          ]
          | inr g ↦ inr (stays_put s t root parent o h (insert_nowhere s.region s.at t parent.regions g))
        ]

-- ---- the spot of an operation that is taken out is one of what is left

pub spot_left : (n : OpName) (root : Tree) (x : Located) → Once (tree_names root)
    → is_among n (regions_names root.regions) ≡ true → tree_locate n root ≡ Some x → IsSpot x.spot (tree_erased n root)
spot_left n root x o h l =
    let left = tree_erased n root in
    let once : Once (tree_names left) = once_part (keep (names_part_regions n root.regions)) o in
    elim (spot_or_same x.spot x.tree left once) [
      | inl s ↦ s
      | inr e ↦ absurd (
          let q : left ≡ root = sym e ∙ erased_back root n x o l in
          let g = gone_tree n root o h in
          let k : is_among n (tree_names root) ≡ false = subst (λ y. is_among n (tree_names y) ≡ false) q g in
          let a = among_behind n root.name (regions_names root.regions) h in
          cc)
    ]
