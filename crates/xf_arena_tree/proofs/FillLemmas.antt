-- Trees that are filled block by block.
use Rattle.std.proofs.Common.{◌≡◌, ℕ, zero, suc, ◌+◌, ◌<◌, ◌≤◌, List, [], ◌∷◌, ◌++◌, length, take}
use Rattle.std.proofs.Common.{sym, ◌∙◌, ap, subst, arith, refl, true, false, eqb, inl, inr}
use Rattle.std.proofs.Common.{append_assoc, ◌^◌}
use Rattle.std.specs.Prelude.{Option, Some, None}
use Rattle.std.proofs.lemmas.Bool.{cases_Bool, or_parts, eqb-true}
use Rattle.xf_type.specs.declared.payload_type.PayloadType.{PayloadType}
use Rattle.xf_ir.specs.declared.name.OpName.{OpName}
use Rattle.xf_ir.specs.RuleBlocks.{block_args}
use Rattle.xf_ir.specs.Tree.{Ops, no_ops, op, Regions, no_regions, region, Tree, cons}
use Rattle.xf_ir.specs.Count.{ops_count, regions_count}
use Rattle.xf_ir.specs.Spots.{ops_insert, regions_insert, regions_get, ops_length}
use Rattle.xf_ir.specs.Bounds.{OpsShort, regions_length}
use Rattle.xf_ir.specs.Replaced.{append}
use Rattle.xf_arena_tree.specs.Names.{heads, ops_has, regions_has, OpsDistinct, RegionsDistinct}
use Rattle.xf_arena_tree.specs.Without.{OpsWhere, RegionsWhere}
use Rattle.xf_arena_tree.specs.Puts.{ops_put, regions_put, tree_put, InRange, bare, kids_before, last_name, StandsAt}
use Rattle.xf_arena_tree.specs.Fills.{hollow, puts_in, insert_all, AreShort}
use Rattle.xf_arena_tree.proofs.WithoutLemmas.{parts3}
use Rattle.xf_arena_tree.proofs.GrowLemmas.{with_child, put_put}

-- ---- a block filled from its start

insert_end : (j : ℕ) (t : Tree) (pre : Ops) → j ≡ length (heads pre) → ops_insert j t pre ≡ append pre (cons t no_ops)
insert_end zero t no_ops e = refl
insert_end zero t (op n k ds os ts rs rest) e = absurd (omega arith)
insert_end (suc j) t no_ops e = absurd (omega arith)
insert_end (suc j) t (op n k ds os ts rs rest) e = ap (op n k ds os ts rs) (insert_end j t rest (omega arith))

append_one : (pre : Ops) (t : Tree) (rest : Ops) → append (append pre (cons t no_ops)) rest ≡ append pre (cons t rest)
append_one no_ops t rest = refl
append_one (op n k ds os ts rs more) t rest = ap (op n k ds os ts rs) (append_one more t rest)

append_none : (pre : Ops) → append pre no_ops ≡ pre
append_none no_ops = refl
append_none (op n k ds os ts rs rest) = ap (op n k ds os ts rs) (append_none rest)

heads_end : (pre : Ops) (t : Tree) → length (heads (append pre (cons t no_ops))) ≡ suc (length (heads pre))
heads_end no_ops t = refl
heads_end (op n k ds os ts rs rest) t = ap suc (heads_end rest t)

fill_block : (j : ℕ) (ops : Ops) (args : List PayloadType) (pre : Ops) (rest : Regions) → j ≡ length (heads pre)
    → insert_all 0 j ops (region args pre rest) ≡ region args (append pre ops) rest
fill_block j no_ops args pre rest e = ap (λ (o : Ops). region args o rest) (sym (append_none pre))
fill_block j (op n k ds os ts rs more) args pre rest e =
    let t : Tree = record { name = n; kind = k; attrs = ds; operands = os; results = ts; regions = rs } in
    ap (λ (o : Ops). insert_all 0 (suc j) more (region args o rest)) (insert_end j t pre e)
    ∙ fill_block (suc j) more args (append pre (cons t no_ops)) rest (ap suc e ∙ sym (heads_end pre t))
    ∙ ap (λ (o : Ops). region args o rest) (append_one pre t more)

fill_later : (k j : ℕ) (ops : Ops) (args : List PayloadType) (b : Ops) (rest : Regions)
    → insert_all (suc k) j ops (region args b rest) ≡ region args b (insert_all k j ops rest)
fill_later k j no_ops args b rest = refl
fill_later k j (op n kd ds os ts rs more) args b rest = fill_later k (suc j) more args b _

-- ---- one block more

-- what a block adds to regions in which the first ones are empty
pub record Step (k : ℕ) (block : Ops) (rs : Regions) : Type 0 where
  pub filled : insert_all k 0 block (hollow (suc k) rs) ≡ hollow k rs
  pub first : StandsAt k 0 None (hollow (suc k) rs)
  pub count : regions_count (hollow k rs) ≡ regions_count (hollow (suc k) rs) + ops_count block
  pub fewer : (x : OpName) → regions_has x (hollow k rs) ≡ false → regions_has x (hollow (suc k) rs) ≡ false
  pub inside : (x : OpName) → regions_has x (hollow k rs) ≡ false → ops_has x block ≡ false
  pub short : AreShort (hollow k rs) → AreShort (hollow (suc k) rs) × ((ops_length block < 2 ^ 32) × OpsShort block)

-- what distinct names give
pub record Apart (k : ℕ) (block : Ops) (rs : Regions) : Type 0 where
  pub rest : RegionsDistinct (hollow (suc k) rs)
  pub own : OpsDistinct block
  pub other : (x : OpName) → ops_has x block ≡ true → regions_has x (hollow (suc k) rs) ≡ false

some_ops : (a b : Ops) → Some a ≡ Some b → a ≡ b
some_ops a b e = cc

step_with : (k : ℕ) (a b : Ops) (rs : Regions) → a ≡ b → Step k a rs → Step k b rs
step_with k a b rs e s = rw (← e) s

apart_with : (k : ℕ) (a b : Ops) (rs : Regions) → a ≡ b → Apart k a rs → Apart k b rs
apart_with k a b rs e s = rw (← e) s

pub step : (k : ℕ) (block : Ops) (rs : Regions) → regions_get k rs ≡ Some block → Step k block rs
step k block no_regions e = cc
step zero block (region args ops rest) e = step_with 0 ops block (region args ops rest) (some_ops ops block e) (record {
  filled = fill_block 0 ops args no_ops rest refl;
  first = record { in_range = omega arith; before = refl };
  count = omega arith;
  fewer = λ x h. (or_parts (ops_has x ops) (regions_has x rest) h).1;
  inside = λ x h. (or_parts (ops_has x ops) (regions_has x rest) h).0;
  short = λ s. (record { blocks = (omega arith, s.blocks.1); inside = (tt, s.inside.1) }, (s.blocks.0, s.inside.0));
})
step (suc k) block (region args ops rest) e =
    let s = step k block rest e in
    record {
      filled = fill_later k 0 block args no_ops (hollow (suc k) rest) ∙ ap (region args no_ops) s.filled;
      first = record { in_range = s.first.in_range; before = s.first.before };
      count = omega (arith, s.count);
      fewer = s.fewer;
      inside = s.inside;
      short = λ h.
          let r = s.short (record { blocks = h.blocks.1; inside = h.inside.1 }) in
          (record { blocks = (h.blocks.0, r.0.blocks); inside = (tt, r.0.inside) }, r.1);
    }

pub apart : (k : ℕ) (block : Ops) (rs : Regions) → regions_get k rs ≡ Some block → RegionsDistinct (hollow k rs)
    → Apart k block rs
apart k block no_regions e d = cc
apart zero block (region args ops rest) e d =
    apart_with 0 ops block (region args ops rest) (some_ops ops block e) (record {
      rest = ((λ x h. let z : false ≡ true = h in cc), (tt, d.1.1));
      own = d.1.0;
      other = d.0;
    })
apart (suc k) block (region args ops rest) e d =
    let a = apart k block rest e d.1.1 in
    record { rest = ((λ x h. let z : false ≡ true = h in cc), (tt, a.rest)); own = a.own; other = a.other }

pub hollow_all : (k : ℕ) (rs : Regions) → regions_length rs ≤ k → hollow k rs ≡ bare (block_args rs)
hollow_all zero no_regions h = refl
hollow_all zero (region args ops rest) h = absurd (omega arith)
hollow_all (suc k) no_regions h = refl
hollow_all (suc k) (region args ops rest) h = ap (region args no_ops) (hollow_all k rest (omega arith))

-- ---- put into what was put

abbrev pub first_tree : Ops → Tree → Tree
first_tree no_ops u = u
first_tree (op n k ds os ts rs rest) u =
    record { name = n; kind = k; attrs = ds; operands = os; results = ts; regions = rs }

pub trees_same : (t u : Tree) → cons t no_ops ≡ cons u no_ops → t ≡ u
trees_same t u e = ap (λ (o : Ops). first_tree o t) e

pub put_first : (p : OpName) (r i : ℕ) (t u : Tree) → ops_put p r i t (cons u no_ops) ≡ cons (tree_put p r i t u) no_ops
put_first p r i t u = elim (cases_Bool (eqb u.name.0 p.0)) [ inl e ↦ rw e refl | inr e ↦ rw e refl ]

tree_put_put : (n : OpName) (k j : ℕ) (c : Tree) (p : OpName) (r i : ℕ) (x u : Tree) → eqb x.name.0 n.0 ≡ true
    → ops_has n (cons u no_ops) ≡ false → tree_put n k j c (tree_put p r i x u) ≡ tree_put p r i (with_child k j c x) u
tree_put_put n k j c p r i x u e h =
    trees_same _ _ (
    sym (put_first n k j c (tree_put p r i x u)) ∙ ap (ops_put n k j c) (sym (put_first p r i x u))
    ∙ put_put n k j c p r i x (cons u no_ops) e h ∙ put_first p r i (with_child k j c x) u)

pub puts_put : (n : OpName) (k j : ℕ) (ops : Ops) (p : OpName) (r i : ℕ) (x u : Tree) → eqb x.name.0 n.0 ≡ true
    → ops_has n (cons u no_ops) ≡ false
    → puts_in n k j ops (tree_put p r i x u) ≡ tree_put p r i (record x { regions = insert_all k j ops x.regions }) u
puts_put n k j no_ops p r i x u e h = refl
puts_put n k j (op m kd ds os ts rs rest) p r i x u e h =
    let c : Tree = record { name = m; kind = kd; attrs = ds; operands = os; results = ts; regions = rs } in
    ap (puts_in n k (suc j) rest) (tree_put_put n k j c p r i x u e h)
    ∙ puts_put n k (suc j) rest p r i (with_child k j c x) u e h

-- ---- what holds at an operation, after a put

mutual
  pub where_absent : (o : OpName) (Q : Regions → Type 0) (ops : Ops) → ops_has o ops ≡ false → OpsWhere o Q ops
  where_absent o Q no_ops h = tt
  where_absent o Q (op n k ds os ts rs rest) h =
      let p = parts3 (eqb n.0 o.0) (regions_has o rs) (ops_has o rest) h in (
        (λ e. let z : true ≡ false = sym e ∙ p.0 in cc),
        (regions_where_absent o Q rs p.1.0, where_absent o Q rest p.1.1),
      )

  pub regions_where_absent : (o : OpName) (Q : Regions → Type 0) (rs : Regions) → regions_has o rs ≡ false
      → RegionsWhere o Q rs
  regions_where_absent o Q no_regions h = tt
  regions_where_absent o Q (region args ops rest) h =
      let p = or_parts (ops_has o ops) (regions_has o rest) h in
      (where_absent o Q ops p.0, regions_where_absent o Q rest p.1)

insert_where : (o : OpName) (Q : Regions → Type 0) (i : ℕ) (t : Tree) (ops : Ops) → OpsWhere o Q (cons t no_ops)
    → OpsWhere o Q ops → OpsWhere o Q (ops_insert i t ops)
insert_where o Q zero t ops a b = (a.0, (a.1.0, b))
insert_where o Q (suc i) t no_ops a b = tt
insert_where o Q (suc i) t (op n k ds os ts rs rest) a b = (b.0, (b.1.0, insert_where o Q i t rest a b.1.1))

regions_insert_where : (o : OpName) (Q : Regions → Type 0) (r i : ℕ) (t : Tree) (rs : Regions)
    → OpsWhere o Q (cons t no_ops) → RegionsWhere o Q rs → RegionsWhere o Q (regions_insert r i t rs)
regions_insert_where o Q r i t no_regions a b = tt
regions_insert_where o Q zero i t (region args ops rest) a b = (insert_where o Q i t ops a b.0, b.1)
regions_insert_where o Q (suc r) i t (region args ops rest) a b = (b.0, regions_insert_where o Q r i t rest a b.1)

same_op : (n o : OpName) → eqb n.0 o.0 ≡ true → n ≡ o
same_op n o e = let mk : ℕ → OpName = λ x. record { 0 = x } in ap mk (eqb-true n.0 o.0 e)

-- at the operation that gets a tree
mutual
  put_where : (p : OpName) (Q R : Regions → Type 0) (r i : ℕ) (t : Tree) (ops : Ops)
      → ((rs : Regions) → Q rs → R (regions_insert r i t rs)) → ops_has p (cons t no_ops) ≡ false → OpsDistinct ops
      → OpsWhere p Q ops → OpsWhere p R (ops_put p r i t ops)
  put_where p Q R r i t no_ops f g d w = tt
  put_where p Q R r i t (op n k ds os ts rs rest) f g d w =
      elim (cases_Bool (eqb n.0 p.0)) [
        | inl e ↦ (
            let lacks : regions_has p rs ≡ false = rw (same_op n p e) at d.0 in
            let behind : ops_has p rest ≡ false = rw (same_op n p e) at d.1.0 in
            rw e (
              (λ z. f rs (w.0 e)),
              (
                regions_insert_where p R r i t rs (where_absent p R (cons t no_ops) g)
                    (regions_where_absent p R rs lacks),
                where_absent p R rest behind,
              ),
            ))
        | inr e ↦ rw e (
          (λ z. let q : true ≡ false = sym z ∙ e in cc),
          (regions_put_where p Q R r i t rs f g d.1.1.1.0 w.1.0, put_where p Q R r i t rest f g d.1.1.1.1 w.1.1),
        )
      ]

  regions_put_where : (p : OpName) (Q R : Regions → Type 0) (r i : ℕ) (t : Tree) (rs : Regions)
      → ((rs : Regions) → Q rs → R (regions_insert r i t rs)) → ops_has p (cons t no_ops) ≡ false → RegionsDistinct rs
      → RegionsWhere p Q rs → RegionsWhere p R (regions_put p r i t rs)
  regions_put_where p Q R r i t no_regions f g d w = tt
  regions_put_where p Q R r i t (region args ops rest) f g d w =
      (put_where p Q R r i t ops f g d.1.0 w.0, regions_put_where p Q R r i t rest f g d.1.1 w.1)

-- at an operation of the tree that is put
mutual
  put_where_new : (p o : OpName) (Q : Regions → Type 0) (r i : ℕ) (t : Tree) (ops : Ops) → OpsWhere o Q (cons t no_ops)
      → OpsWhere o Q ops → ops_has o ops ≡ false → OpsWhere o Q (ops_put p r i t ops)
  put_where_new p o Q r i t no_ops a b h = tt
  put_where_new p o Q r i t (op n k ds os ts rs rest) a b h =
      let q = parts3 (eqb n.0 o.0) (regions_has o rs) (ops_has o rest) h in
      elim (cases_Bool (eqb n.0 p.0)) [
        | inl e ↦ rw e (
          (λ z. let y : true ≡ false = sym z ∙ q.0 in cc),
          (regions_insert_where o Q r i t rs a b.1.0, b.1.1),
        )
        | inr e ↦ rw e (
          (λ z. let y : true ≡ false = sym z ∙ q.0 in cc),
          (regions_put_where_new p o Q r i t rs a b.1.0 q.1.0, put_where_new p o Q r i t rest a b.1.1 q.1.1),
        )
      ]

  regions_put_where_new : (p o : OpName) (Q : Regions → Type 0) (r i : ℕ) (t : Tree) (rs : Regions)
      → OpsWhere o Q (cons t no_ops) → RegionsWhere o Q rs → regions_has o rs ≡ false
      → RegionsWhere o Q (regions_put p r i t rs)
  regions_put_where_new p o Q r i t no_regions a b h = tt
  regions_put_where_new p o Q r i t (region args ops rest) a b h =
      let q = or_parts (ops_has o ops) (regions_has o rest) h in
      (put_where_new p o Q r i t ops a b.0 q.0, regions_put_where_new p o Q r i t rest a b.1 q.1)

pub filled_where : (p : OpName) (r i : ℕ) (x u : Tree) (Q : Regions → Type 0) → Q x.regions
    → regions_has x.name x.regions ≡ false → ops_has x.name (cons u no_ops) ≡ false
    → OpsWhere x.name Q (cons (tree_put p r i x u) no_ops)
filled_where p r i x u Q q f h =
    subst (λ (o : Ops). OpsWhere x.name Q o) (put_first p r i x u) (put_where_new p x.name Q r i x (cons u no_ops)
    ((λ e. q), (regions_where_absent x.name Q x.regions f, tt)) (where_absent x.name Q (cons u no_ops) h) h)

-- ---- the next place of a block

take_next : (j : ℕ) (t : Tree) (ops : Ops) → j ≤ length (heads ops)
    → take (suc j) (heads (ops_insert j t ops)) ≡ take j (heads ops) ++ t.name ∷ []
take_next zero t ops h = refl
take_next (suc j) t no_ops h = absurd (omega arith)
take_next (suc j) t (op n k ds os ts rs rest) h = ap (λ l. n ∷ l) (take_next j t rest (omega arith))

longer : (j : ℕ) (t : Tree) (ops : Ops) → j ≤ length (heads ops) → suc j ≤ length (heads (ops_insert j t ops))
longer zero t ops h = omega arith
longer (suc j) t no_ops h = absurd (omega arith)
longer (suc j) t (op n k ds os ts rs rest) h = omega (arith, longer j t rest (omega arith))

range_next : (k j : ℕ) (t : Tree) (rs : Regions) → InRange k j rs → InRange k (suc j) (regions_insert k j t rs)
range_next k j t no_regions h = absurd h
range_next zero j t (region args ops rest) h = longer j t ops h
range_next (suc k) j t (region args ops rest) h = range_next k j t rest h

before_next : (k j : ℕ) (t : Tree) (rs : Regions) → InRange k j rs
    → kids_before k (suc j) (regions_insert k j t rs) ≡ kids_before k j rs ++ t.name ∷ []
before_next k j t no_regions h = absurd h
before_next zero j t (region args ops rest) h = take_next j t ops h
before_next (suc k) j t (region args ops rest) h =
    ap (λ l. heads ops ++ l) (before_next k j t rest h)
    ∙ sym (append_assoc (heads ops) (kids_before k j rest) (t.name ∷ []))

last_end : (ns : List OpName) (n : OpName) → last_name (ns ++ n ∷ []) ≡ Some n
last_end [] n = refl
last_end (m ∷ []) n = refl
last_end (m ∷ (k ∷ ns)) n = last_end (k ∷ ns) n

stands_next : (k j : ℕ) (sibling : Option OpName) (t : Tree) (rs : Regions) → StandsAt k j sibling rs
    → StandsAt k (suc j) (Some t.name) (regions_insert k j t rs)
stands_next k j sibling t rs s = record {
  in_range = range_next k j t rs s.in_range;
  before = ap last_name (before_next k j t rs s.in_range) ∙ last_end (kids_before k j rs) t.name;
}

pub place_next : (n : OpName) (k j : ℕ) (sibling : Option OpName) (t u : Tree) → ops_has n (cons t no_ops) ≡ false
    → OpsDistinct (cons u no_ops) → OpsWhere n (StandsAt k j sibling) (cons u no_ops)
    → OpsWhere n (StandsAt k (suc j) (Some t.name)) (cons (tree_put n k j t u) no_ops)
place_next n k j sibling t u f d w =
    subst (λ (o : Ops). OpsWhere n (StandsAt k (suc j) (Some t.name)) o) (put_first n k j t u)
    (put_where n (StandsAt k j sibling) (StandsAt k (suc j) (Some t.name)) k j t (cons u no_ops)
    (λ rs s. stands_next k j sibling t rs s) f d w)
