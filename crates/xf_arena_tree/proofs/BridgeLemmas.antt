-- The edits of the definitions, where names are distinct.
use Rattle.std.proofs.Common.{◌≡◌, ℕ, zero, suc, ◌≤◌, List, [], ◌∷◌, ◌++◌, length}
use Rattle.std.proofs.Common.{sym, ◌∙◌, ap, arith, refl, Bool, true, false, eqb, ◌||◌, inl, inr}
use Rattle.std.specs.Prelude.{Option, Some, None}
use Rattle.std.proofs.lemmas.Bool.{cases_Bool, or_parts, eqb-true, eq-eqb}
use Rattle.xf_ir.specs.declared.name.OpName.{OpName}
use Rattle.xf_ir.specs.declared.spot.Spot.{Spot}
use Rattle.xf_ir.specs.Tree.{Ops, no_ops, op, Regions, no_regions, region, Tree, cons}
use Rattle.xf_ir.specs.Walk.{ops_names, regions_names, tree_names, ops_find, regions_find, tree_find, first_of}
use Rattle.xf_ir.specs.Lists.{is_among, Once}
use Rattle.xf_ir.specs.Edits.{ops_at, regions_at, tail, tree_erased}
use Rattle.xf_ir.specs.Spots as spots
use Rattle.xf_ir.specs.Spots.{ops_insert, regions_insert, regions_get, ops_length, IsSpot}
use Rattle.xf_ir.proofs.Found.{first_cases}
use Rattle.xf_arena_tree.specs.Names.{heads, ops_has, regions_has, OpsDistinct, RegionsDistinct}
use Rattle.xf_arena_tree.specs.Without.{ops_without, regions_without, tree_without, OpsWhere, RegionsWhere}
use Rattle.xf_arena_tree.specs.Puts.{ops_put, regions_put, tree_put, InRange}
use Rattle.xf_arena_tree.proofs.WithoutLemmas.{ops_absent, parts3}
use Rattle.xf_arena_tree.proofs.SplitLemmas.{find_has, find_has_regions}
use Rattle.xf_arena_tree.proofs.FillLemmas.{where_absent, regions_where_absent}

same_op : (n o : OpName) → eqb n.0 o.0 ≡ true → n ≡ o
same_op n o e = let mk : ℕ → OpName = λ x. record { 0 = x } in ap mk (eqb-true n.0 o.0 e)

-- ---- erased

mutual
  without_is : (o : OpName) (ops : Ops) → OpsDistinct ops → ops_without o ops ≡ ops_at o tail ops
  without_is o no_ops d = refl
  without_is o (op n k ds os ts rs rest) d =
      elim (cases_Bool (eqb n.0 o.0)) [
        | inl e ↦ (let z = ops_absent o rest (rw (same_op n o e) at d.1.0) in rw (e, z) refl)
        | inr f ↦ (
            let a = regions_without_is o rs d.1.1.1.0 in
            let b = without_is o rest d.1.1.1.1 in
            rw (f, a, b) refl)
      ]

  regions_without_is : (o : OpName) (rs : Regions) → RegionsDistinct rs → regions_without o rs ≡ regions_at o tail rs
  regions_without_is o no_regions d = refl
  regions_without_is o (region args ops rest) d =
      let a = without_is o ops d.1.0 in
      let b = regions_without_is o rest d.1.1 in
      rw (a, b) refl

pub erased_is : (o : OpName) (t : Tree) → OpsDistinct (cons t no_ops) → tree_without o t ≡ tree_erased o t
erased_is o t d = ap (λ (rs : Regions). let w : Tree = record t { regions = rs } in w)
    (regions_without_is o t.regions d.1.1.1.0)

-- ---- put

mutual
  put_lacks : (s : Spot) (t : Tree) (ops : Ops) → ops_has s.parent ops ≡ false → spots.ops_put s t ops ≡ ops
  put_lacks s t no_ops h = refl
  put_lacks s t (op n k ds os ts rs rest) h =
      let p = parts3 (eqb n.0 s.parent.0) (regions_has s.parent rs) (ops_has s.parent rest) h in
      let a = regions_put_lacks s t rs p.1.0 in
      let b = put_lacks s t rest p.1.1 in
      rw (p.0, a, b) refl

  regions_put_lacks : (s : Spot) (t : Tree) (rs : Regions) → regions_has s.parent rs ≡ false
      → spots.regions_put s t rs ≡ rs
  regions_put_lacks s t no_regions h = refl
  regions_put_lacks s t (region args ops rest) h =
      let p = or_parts (ops_has s.parent ops) (regions_has s.parent rest) h in
      let a = put_lacks s t ops p.0 in
      let b = regions_put_lacks s t rest p.1 in
      rw (a, b) refl

mutual
  put_is : (s : Spot) (t : Tree) (ops : Ops) → OpsDistinct ops
      → ops_put s.parent s.region s.at t ops ≡ spots.ops_put s t ops
  put_is s t no_ops d = refl
  put_is s t (op n k ds os ts rs rest) d =
      elim (cases_Bool (eqb n.0 s.parent.0)) [
        | inl e ↦ (
            let z = put_lacks s t rest (rw (same_op n s.parent e) at d.1.0) in
            rw (e, z) refl)
        | inr f ↦ (
            let a = regions_put_is s t rs d.1.1.1.0 in
            let b = put_is s t rest d.1.1.1.1 in
            rw (f, a, b) refl)
      ]

  regions_put_is : (s : Spot) (t : Tree) (rs : Regions) → RegionsDistinct rs
      → regions_put s.parent s.region s.at t rs ≡ spots.regions_put s t rs
  regions_put_is s t no_regions d = refl
  regions_put_is s t (region args ops rest) d =
      let a = put_is s t ops d.1.0 in
      let b = regions_put_is s t rest d.1.1 in
      rw (a, b) refl

pub tree_put_is : (s : Spot) (t u : Tree) → OpsDistinct (cons u no_ops)
    → tree_put s.parent s.region s.at t u ≡ spots.tree_put s t u
tree_put_is s t u d =
    elim (cases_Bool (eqb u.name.0 s.parent.0)) [
      | inl e ↦ rw e refl
      | inr f ↦ (let a = regions_put_is s t u.regions d.1.1.1.0 in rw (f, a) refl)
    ]

-- ---- names

pub among_append : (x : OpName) (ns ms : List OpName) → is_among x (ns ++ ms) ≡ (is_among x ns || is_among x ms)
among_append x [] ms = refl
among_append x (n ∷ ns) ms =
    elim (eqb n.0 x.0) as (λ b. (b || is_among x (ns ++ ms)) ≡ ((b || is_among x ns) || is_among x ms)) [
      | true ↦ refl
      | false ↦ among_append x ns ms
    ]

mutual
  pub among_is : (x : OpName) (ops : Ops) → is_among x (ops_names ops) ≡ ops_has x ops
  among_is x no_ops = refl
  among_is x (op n k ds os ts rs rest) =
      ap (λ b. eqb n.0 x.0 || b) (among_append x (regions_names rs) (ops_names rest)
      ∙ ap (λ b. b || is_among x (ops_names rest)) (regions_among_is x rs)
      ∙ ap (λ b. regions_has x rs || b) (among_is x rest))

  pub regions_among_is : (x : OpName) (rs : Regions) → is_among x (regions_names rs) ≡ regions_has x rs
  regions_among_is x no_regions = refl
  regions_among_is x (region args ops rest) =
      among_append x (ops_names ops) (regions_names rest)
      ∙ ap (λ b. b || is_among x (regions_names rest)) (among_is x ops)
      ∙ ap (λ b. ops_has x ops || b) (regions_among_is x rest)

pub once_left : (ns ms : List OpName) → Once (ns ++ ms) → Once ns
once_left [] ms o = tt
once_left (n ∷ ns) ms o = (
  (or_parts (is_among n ns) (is_among n ms) (sym (among_append n ns ms) ∙ o.0)).0,
  once_left ns ms o.1,
)

pub once_right : (ns ms : List OpName) → Once (ns ++ ms) → Once ms
once_right [] ms o = o
once_right (n ∷ ns) ms o = once_right ns ms o.1

pub once_apart : (x : OpName) (ns ms : List OpName) → Once (ns ++ ms) → is_among x ns ≡ true → is_among x ms ≡ false
once_apart x [] ms o h = cc
once_apart x (n ∷ ns) ms o h =
    elim (cases_Bool (eqb n.0 x.0)) [
      | inl e ↦ (
          let z = (or_parts (is_among n ns) (is_among n ms) (sym (among_append n ns ms) ∙ o.0)).1 in
          rw (same_op n x e) at z)
      | inr f ↦ once_apart x ns ms o.1 (rw f at h)
    ]

mutual
  pub once_distinct : (ops : Ops) → Once (ops_names ops) → OpsDistinct ops
  once_distinct no_ops o = tt
  once_distinct (op n k ds os ts rs rest) o =
      let p = or_parts (is_among n (regions_names rs)) (is_among n (ops_names rest))
      (sym (among_append n (regions_names rs) (ops_names rest)) ∙ o.0)
      in (
        sym (regions_among_is n rs) ∙ p.0,
        (
          sym (among_is n rest) ∙ p.1,
          (
            (λ x h. sym (among_is x rest) ∙ once_apart x (regions_names rs) (ops_names rest) o.1
                (regions_among_is x rs ∙ h)),
            (
              regions_once_distinct rs (once_left (regions_names rs) (ops_names rest) o.1),
              once_distinct rest (once_right (regions_names rs) (ops_names rest) o.1),
            ),
          ),
        ),
      )

  pub regions_once_distinct : (rs : Regions) → Once (regions_names rs) → RegionsDistinct rs
  regions_once_distinct no_regions o = tt
  regions_once_distinct (region args ops rest) o = (
    (λ x h. sym (regions_among_is x rest) ∙ once_apart x (ops_names ops) (regions_names rest) o (among_is x ops ∙ h)),
    (
      once_distinct ops (once_left (ops_names ops) (regions_names rest) o),
      regions_once_distinct rest (once_right (ops_names ops) (regions_names rest) o),
    ),
  )

pub once_append : (ns ms : List OpName) → Once ns → Once ms
    → ((x : OpName) → is_among x ns ≡ true → is_among x ms ≡ false) → Once (ns ++ ms)
once_append [] ms a b h = b
once_append (n ∷ ns) ms a b h =
    let here : is_among n (n ∷ ns) ≡ true = (let z = eq-eqb n.0 n.0 refl in rw z refl) in (
      among_append n ns ms ∙ (let y = h n here in rw (a.0, y) refl),
      once_append ns ms a.1 b (λ x q. h x (behind n x ns q)),
    )
  where
    behind : (n x : OpName) (ns : List OpName) → is_among x ns ≡ true → is_among x (n ∷ ns) ≡ true
    behind n x ns q = elim (cases_Bool (eqb n.0 x.0)) [ inl e ↦ rw e refl | inr e ↦ rw (e, q) refl ]

mutual
  pub distinct_once : (ops : Ops) → OpsDistinct ops → Once (ops_names ops)
  distinct_once no_ops d = tt
  distinct_once (op n k ds os ts rs rest) d =
      let a = regions_among_is n rs ∙ d.0 in
      let b = among_is n rest ∙ d.1.0 in (
        among_append n (regions_names rs) (ops_names rest) ∙ rw (a, b) refl,
        once_append (regions_names rs) (ops_names rest) (regions_distinct_once rs d.1.1.1.0)
            (distinct_once rest d.1.1.1.1)
            (λ x h. among_is x rest ∙ d.1.1.0 x (sym (regions_among_is x rs) ∙ h)),
      )

  pub regions_distinct_once : (rs : Regions) → RegionsDistinct rs → Once (regions_names rs)
  regions_distinct_once no_regions d = tt
  regions_distinct_once (region args ops rest) d =
      once_append (ops_names ops) (regions_names rest) (distinct_once ops d.1.0) (regions_distinct_once rest d.1.1)
      (λ x h. regions_among_is x rest ∙ d.0 x (sym (among_is x ops) ∙ h))

names_end : (xs : List OpName) → xs ++ [] ≡ xs
names_end [] = refl
names_end (x ∷ xs) = ap (λ l. x ∷ l) (names_end xs)

pub tree_names_is : (t : Tree) → ops_names (cons t no_ops) ≡ tree_names t
tree_names_is t = ap (λ l. t.name ∷ l) (names_end (regions_names t.regions))

-- ---- what holds at an operation that is found

not_both : (f g : OpName → Bool) (o : OpName) → ((x : OpName) → f x ≡ true → g x ≡ false) → g o ≡ true → f o ≡ false
not_both f g o d h = elim (cases_Bool (f o)) [
  | inl a ↦ (let z : true ≡ false = sym h ∙ d o a in cc)
  | inr a ↦ a
]

regions_eq : (t x : Tree) → Some t ≡ Some x → x.regions ≡ t.regions
regions_eq t x e = let q : t ≡ x = cc in ap (λ (y : Tree). y.regions) (sym q)

mutual
  pub found_where : (o : OpName) (Q : Regions → Type 0) (ops : Ops) (x : Tree) → OpsDistinct ops
      → ops_find o ops ≡ Some x
      → Q x.regions → OpsWhere o Q ops
  found_where o Q no_ops x d e q = cc
  found_where o Q (op n k ds os ts rs rest) x d e q =
      elim (cases_Bool (eqb n.0 o.0)) [
        | inl t ↦ (
            let here : Tree =
            record { name = n; kind = k; attrs = ds; operands = os; results = ts; regions = rs }
            in
            let w = regions_eq here x (rw t at e) in
            let inner : regions_has o rs ≡ false = rw (same_op n o t) at d.0 in
            let behind : ops_has o rest ≡ false = rw (same_op n o t) at d.1.0 in
            ((λ z. rw w at q), (regions_where_absent o Q rs inner, where_absent o Q rest behind)))
        | inr f ↦ (
            let e2 : first_of (regions_find o rs) (ops_find o rest) ≡ Some x = rw f at e in
            let clash : eqb n.0 o.0 ≡ true → Q rs = λ z. (let y : true ≡ false = sym z ∙ f in absurd (cc)) in
            elim (first_cases (regions_find o rs) (ops_find o rest) x e2) [
              | inl a ↦ (
                  let behind = d.1.1.0 o (find_has_regions o rs x a) in
                  (clash, (regions_found_where o Q rs x d.1.1.1.0 a q, where_absent o Q rest behind)))
              | inr a ↦ (
                  let b = find_has o rest x a.1 in
                  let inner = not_both (λ y. regions_has y rs) (λ y. ops_has y rest) o d.1.1.0 b in
                  (clash, (regions_where_absent o Q rs inner, found_where o Q rest x d.1.1.1.1 a.1 q)))
            ])
      ]

  pub regions_found_where : (o : OpName) (Q : Regions → Type 0) (rs : Regions) (x : Tree) → RegionsDistinct rs
      → regions_find o rs ≡ Some x → Q x.regions → RegionsWhere o Q rs
  regions_found_where o Q no_regions x d e q = cc
  regions_found_where o Q (region args ops rest) x d e q =
      elim (first_cases (ops_find o ops) (regions_find o rest) x e) [
        | inl a ↦ (found_where o Q ops x d.1.0 a q, regions_where_absent o Q rest (d.0 o (find_has o ops x a)))
        | inr a ↦ (
            let b = find_has_regions o rest x a.1 in (
              where_absent o Q ops (not_both (λ y. ops_has y ops) (λ y. regions_has y rest) o d.0 b),
              regions_found_where o Q rest x d.1.1 a.1 q,
            ))
      ]

-- ---- a spot of the definitions

length_heads : (ops : Ops) → ops_length ops ≡ length (heads ops)
length_heads no_ops = refl
length_heads (op n k ds os ts rs rest) = omega (arith, length_heads rest)

range_of : (r i : ℕ) (rs : Regions) (block : Ops) → regions_get r rs ≡ Some block → i ≤ ops_length block
    → InRange r i rs
range_of r i no_regions block e l = cc
range_of zero i (region args ops rest) block e l =
    let q : ops ≡ block = cc in
    omega (arith, length_heads ops, ap ops_length q)
range_of (suc r) i (region args ops rest) block e l = range_of r i rest block e l

alone : (a : Option Tree) → first_of a None ≡ a
alone None = refl
alone (Some x) = refl

pub found_is : (x : OpName) (t : Tree) → ops_find x (cons t no_ops) ≡ tree_find x t
found_is x t = alone (tree_find x t)

pub spot_range : (s : Spot) (root : Tree) → OpsDistinct (cons root no_ops) → IsSpot s root
    → OpsWhere s.parent (InRange s.region s.at) (cons root no_ops)
spot_range s root d w =
    found_where s.parent (InRange s.region s.at) (cons root no_ops) w.parent d (found_is s.parent root ∙ w.found)
    (range_of s.region s.at w.parent.regions w.block w.has w.within)

pub spot_has : (s : Spot) (root : Tree) → IsSpot s root → ops_has s.parent (cons root no_ops) ≡ true
spot_has s root w = find_has s.parent (cons root no_ops) w.parent (found_is s.parent root ∙ w.found)
