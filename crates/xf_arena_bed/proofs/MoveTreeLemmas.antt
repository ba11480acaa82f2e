-- Names of a tree in which an operation is moved.
use Rattle.std.proofs.Common.{◌≡◌, ℕ, suc, ◌+◌, List, [], ◌∷◌, ◌++◌, length, length-append, sym, ◌∙◌, ap, arith, refl}
use Rattle.std.proofs.Common.{Bool, true, false, eqb, ◌||◌, inl, inr}
use Rattle.std.specs.Prelude.{Some}
use Rattle.std.proofs.lemmas.Bool.{or_parts, or_cases}
use Rattle.xf_ir.specs.declared.name.OpName.{OpName}
use Rattle.xf_ir.specs.Count.{ops_count, regions_count, tree_count}
use Rattle.xf_ir.specs.Lists.{is_among, Once}
use Rattle.xf_ir.specs.Tree.{Ops, no_ops, op, Regions, no_regions, region, Tree, cons}
use Rattle.xf_ir.specs.Walk.{ops_names, regions_names, ops_find}
use Rattle.xf_arena_tree.specs.Names.{ops_has, OpsDistinct}
use Rattle.xf_arena_tree.specs.Without.{tree_without, ops_without, OpsWhere}
use Rattle.xf_arena_tree.specs.Puts.{tree_put, ops_put, InRange}
use Rattle.xf_arena_tree.specs.Listed.{FromOp, FromBlock, ops_gathered, regions_gathered, Splits}
use Rattle.xf_arena_tree.proofs.SplitLemmas.{put_splits, without_splits}
use Rattle.xf_arena_tree.proofs.BridgeLemmas.{among_append, among_is, once_left, once_right, once_apart, once_append}
use Rattle.xf_arena_tree.proofs.BridgeLemmas.{once_distinct, distinct_once, tree_names_is}
use Rattle.xf_arena_tree.proofs.WithoutLemmas.{ops_distinct}
use Rattle.xf_arena_bed.proofs.HoldsPutLemmas.{first}

-- ---- lists of names

-- what stands among some items stands among all, and the others beside
split_among : (x : OpName) (ts ys zs : List OpName) → Splits ts ys zs
    → is_among x zs ≡ (is_among x ts || is_among x ys)
split_among x ts ys zs s =
    let a = ap (is_among x) s.having ∙ among_append x s.pre (ts ++ s.post)
    ∙ ap (λ b. is_among x s.pre || b) (among_append x ts s.post)
    in
    let b = ap (is_among x) s.lacking ∙ among_append x s.pre s.post in
    a ∙ swap (is_among x s.pre) (is_among x ts) (is_among x s.post) ∙ ap (λ c. is_among x ts || c) (sym b)
  where
    swap : (a b c : Bool) → (a || (b || c)) ≡ (b || (a || c))
    swap true true c = refl
    swap true false c = refl
    swap false b c = refl

-- names that occur once: those of some, those of the others, and none of both
pub record OnceApart (ts ys : List OpName) : Type 0 where
  pub own : Once ts
  pub rest : Once ys
  pub apart : (x : OpName) → is_among x ys ≡ true → is_among x ts ≡ false

not_both : (a b : Bool) → (b ≡ true → a ≡ false) → a ≡ true → b ≡ false
not_both a true h q = (let z : true ≡ false = sym q ∙ h refl in cc)
not_both a false h q = refl

split_once : (ts ys zs : List OpName) → Splits ts ys zs → Once zs → OnceApart ts ys
split_once ts ys zs s o =
    let all : Once (s.pre ++ (ts ++ s.post)) = rw s.having at o in
    let late = once_right s.pre (ts ++ s.post) all in
    let early = once_left s.pre (ts ++ s.post) all in
    let past : (x : OpName) → is_among x s.pre ≡ true → (is_among x ts ≡ false) × (is_among x s.post ≡ false) =
    λ x h. or_parts (is_among x ts) (is_among x s.post)
    (sym (among_append x ts s.post) ∙ once_apart x s.pre (ts ++ s.post) all h)
    in
    record {
      own = once_left ts s.post late;
      rest = rw s.lacking (once_append s.pre s.post early (once_right ts s.post late) (λ x h. (past x h).1));
      apart = λ x h.
          elim (or_cases (is_among x s.pre) (is_among x s.post)
          (sym (among_append x s.pre s.post) ∙ ap (is_among x) (sym s.lacking) ∙ h)) [
            | inl a ↦ (past x a).0
            | inr a ↦ not_both (is_among x s.post) (is_among x ts) (λ b. once_apart x ts s.post late b) a
          ];
    }

split_once_back : (ts ys zs : List OpName) → Splits ts ys zs → OnceApart ts ys → Once zs
split_once_back ts ys zs s o =
    let all : Once (s.pre ++ s.post) = rw s.lacking at o.rest in
    let among : (x : OpName) → is_among x ys ≡ (is_among x s.pre || is_among x s.post) =
    λ x. ap (is_among x) s.lacking ∙ among_append x s.pre s.post
    in
    let late : Once (ts ++ s.post) = once_append ts s.post o.own (once_right s.pre s.post all)
    (λ x h. not_both (is_among x ts) (is_among x s.post) (λ b. o.apart x (among x ∙ behind _ _ b)) h)
    in
    rw s.having (once_append s.pre (ts ++ s.post) (once_left s.pre s.post all) late
    (λ x h. among_append x ts s.post
    ∙ none (is_among x ts) (is_among x s.post) (o.apart x (among x ∙ front _ _ h)) (once_apart x s.pre s.post all h)))
  where
    behind : (a b : Bool) → b ≡ true → (a || b) ≡ true
    behind true b q = refl
    behind false b q = q

    front : (a b : Bool) → a ≡ true → (a || b) ≡ true
    front a b q = rw q refl

    none : (a b : Bool) → a ≡ false → b ≡ false → (a || b) ≡ false
    none a b p q = rw (p, q) refl

split_length : (ts ys zs : List OpName) → Splits ts ys zs → length zs ≡ length ts + length ys
split_length ts ys zs s =
    let a = ap length s.having ∙ length-append s.pre (ts ++ s.post) in
    let b = length-append ts s.post in
    let c = ap length s.lacking ∙ length-append s.pre s.post in
    omega (arith, a, b, c)

-- ---- the names of a tree, as a list

abbrev name_item : FromOp OpName
name_item n os ts = n ∷ []

abbrev no_item : FromBlock OpName
no_item n r args = []

mutual
  gathered_names : (ops : Ops) → ops_gathered name_item no_item ops ≡ ops_names ops
  gathered_names no_ops = refl
  gathered_names (op n k ds os ts rs rest) =
      let a = regions_gathered_names n 0 rs in
      let b = gathered_names rest in
      rw (a, b) refl

  regions_gathered_names : (n : OpName) (r : ℕ) (rs : Regions)
      → regions_gathered name_item no_item n r rs ≡ regions_names rs
  regions_gathered_names n r no_regions = refl
  regions_gathered_names n r (region args ops rest) =
      let a = gathered_names ops in
      let b = regions_gathered_names n (suc r) rest in
      rw (a, b) refl

mutual
  names_count : (ops : Ops) → length (ops_names ops) ≡ ops_count ops
  names_count no_ops = refl
  names_count (op n k ds os ts rs rest) =
      omega (
        arith,
        length-append (regions_names rs) (ops_names rest),
        regions_names_count rs,
        names_count rest,
      )

  regions_names_count : (rs : Regions) → length (regions_names rs) ≡ regions_count rs
  regions_names_count no_regions = refl
  regions_names_count (region args ops rest) =
      omega (
        arith,
        length-append (ops_names ops) (regions_names rest),
        names_count ops,
        regions_names_count rest,
      )

splits_as : (ts ts2 ys ys2 zs zs2 : List OpName) → ts ≡ ts2 → ys ≡ ys2 → zs ≡ zs2 → Splits ts ys zs
    → Splits ts2 ys2 zs2
splits_as ts ts2 ys ys2 zs zs2 a b c s = rw (← a, ← b, ← c) s

tree_gathered_names : (t : Tree) → name_item t.name t.operands t.results
    ++ regions_gathered name_item no_item t.name 0 t.regions ≡ ops_names (cons t no_ops)
tree_gathered_names t =
    ap (λ (l : List OpName). t.name ∷ l) (regions_gathered_names t.name 0 t.regions) ∙ sym (tree_names_is t)

-- ---- an operation taken out

first_out : (o : OpName) (u : Tree) → eqb u.name.0 o.0 ≡ false
    → ops_without o (cons u no_ops) ≡ cons (tree_without o u) no_ops
first_out o u f = rw f refl

pub record TreeOut (o : OpName) (t u : Tree) : Type 0 where
  pub splits : Splits (ops_names (cons t no_ops)) (ops_names (cons (tree_without o u) no_ops))
      (ops_names (cons u no_ops))
  pub names : OnceApart (ops_names (cons t no_ops)) (ops_names (cons (tree_without o u) no_ops))
  pub own : OpsDistinct (cons t no_ops)
  pub rest : OpsDistinct (cons (tree_without o u) no_ops)
  pub apart : (x : OpName) → ops_has x (cons (tree_without o u) no_ops) ≡ true → ops_has x (cons t no_ops) ≡ false

pub taken_out : (o : OpName) (t u : Tree) → OpsDistinct (cons u no_ops) → eqb u.name.0 o.0 ≡ false
    → ops_find o (cons u no_ops) ≡ Some t → TreeOut o t u
taken_out o t u d f e =
    let w = first_out o u f in
    let s = splits_as _ (ops_names (cons t no_ops)) _ (ops_names (cons (tree_without o u) no_ops)) _
    (ops_names (cons u no_ops)) (tree_gathered_names t)
    (gathered_names (ops_without o (cons u no_ops)) ∙ ap ops_names w) (gathered_names (cons u no_ops))
    (without_splits name_item no_item o (cons u no_ops) t d e)
    in
    let n = split_once _ _ _ s (distinct_once (cons u no_ops) d) in
    record {
      splits = s;
      names = n;
      own = once_distinct (cons t no_ops) n.own;
      rest = rw w at (ops_distinct o (cons u no_ops) d);
      apart = λ x h. sym (among_is x (cons t no_ops))
          ∙ n.apart x (among_is x (cons (tree_without o u) no_ops) ∙ h);
    }

-- ---- and put at a place of what is left

pub record TreeMoved (u u2 : Tree) : Type 0 where
  pub has : (x : OpName) → ops_has x (cons u2 no_ops) ≡ ops_has x (cons u no_ops)
  pub distinct : OpsDistinct (cons u2 no_ops)
  pub count : tree_count u2 ≡ tree_count u

pub put_again : (o p : OpName) (r i : ℕ) (t u : Tree) → TreeOut o t u
    → OpsWhere p (InRange r i) (cons (tree_without o u) no_ops)
    → ops_has p (cons (tree_without o u) no_ops) ≡ true → TreeMoved u (tree_put p r i t (tree_without o u))
put_again o p r i t u c w h =
    let left = tree_without o u in
    let u2 = tree_put p r i t left in
    let ts = ops_names (cons t no_ops) in
    let ys = ops_names (cons left no_ops) in
    let us = ops_names (cons u no_ops) in
    let zs = ops_names (cons u2 no_ops) in
    let s = splits_as _ ts _ ys _ zs (tree_gathered_names t) (gathered_names (cons left no_ops))
    (gathered_names (ops_put p r i t (cons left no_ops)) ∙ ap ops_names (first p r i t left))
    (put_splits name_item no_item p r i t (cons left no_ops) c.rest w h)
    in
    let a = split_length ts ys zs s in
    let b = split_length ts ys us c.splits in
    let n = names_count (cons u2 no_ops) in
    let m = names_count (cons u no_ops) in
    record {
      has = λ x. sym (among_is x (cons u2 no_ops)) ∙ split_among x ts ys zs s
          ∙ sym (split_among x ts ys us c.splits) ∙ among_is x (cons u no_ops);
      distinct = once_distinct (cons u2 no_ops) (split_once_back ts ys zs s c.names);
      count = omega (arith, a, b, n, m);
    }
