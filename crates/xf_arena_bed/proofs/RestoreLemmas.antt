-- Steps of putting a tree, block by block.
use Rattle.std.proofs.Common.{◌≡◌, ℕ, zero, suc, ◌+◌, ◌-◌, ◌*◌, ◌<◌, ◌≤◌, ◌^◌, List, [], ◌∷◌, length, add-one}
use Rattle.std.proofs.Common.{sym, ◌∙◌, ap, subst, arith, refl, Bool, true, false, eqb, ◌||◌, inl, inr}
use Rattle.std.specs.Prelude.{Option, Some, None, slice_set, slice_index_or}
use Rattle.std.proofs.lemmas.Bool.{cases_Bool, or_left, or_right, eqb-true, eq-eqb}
use Rattle.xf_ir.specs.declared.name.OpName.{OpName}
use Rattle.xf_ir.specs.RuleBlocks.{block_args}
use Rattle.xf_ir.specs.Tree.{Ops, no_ops, Regions, no_regions, region, Tree, Body, cons}
use Rattle.xf_ir.specs.View.{regions_of, tree_size, ops_size, regions_size}
use Rattle.xf_ir.specs.Bounds.{OpsShort, TreeIsShort, regions_length}
use Rattle.xf_ir.specs.Count.{ops_count, tree_count}
use Rattle.xf_ir.specs.Spots.{regions_get, ops_length}
use Rattle.xf_arena_tree.specs.Names.{ops_has, regions_has, OpsDistinct}
use Rattle.xf_arena_tree.specs.Without.{OpsWhere}
use Rattle.xf_arena_tree.specs.Puts.{tree_put, bare, StandsAt}
use Rattle.xf_arena_tree.specs.Fills.{hollow, puts_in, AreShort}
use Rattle.xf_arena_tree.proofs.WithoutLemmas.{parts3}
use Rattle.xf_arena_tree.proofs.PutTreeLemmas.{put_none}
use Rattle.xf_arena_tree.proofs.FillLemmas.{Step, step, Apart, apart, hollow_all, puts_put, put_first, filled_where}
use Rattle.xf_arena_tree.proofs.FillLemmas.{place_next}
use Rattle.xf_arena_bed.specs.declared.node.Node.{Node}
use Rattle.xf_arena_bed.specs.Blocks.{args_in}
use Rattle.xf_arena_bed.specs.Live.{leaf_of, partly}

-- ---- the blocks of the code

pub length_regions : (bs : List Body) → regions_length (regions_of bs) ≡ length bs
length_regions [] = refl
length_regions (b ∷ bs) = omega (arith, length_regions bs)

pub args_regions : (bs : List Body) → block_args (regions_of bs) ≡ args_in bs
args_regions [] = refl
args_regions (b ∷ bs) = ap (λ l. b.args ∷ l) (args_regions bs)

pub get_block : (bs : List Body) (k : ℕ) (d : Body) → k < length bs
    → regions_get k (regions_of bs) ≡ Some (slice_index_or bs k d).ops
get_block [] k d h = absurd (omega arith)
get_block (b ∷ bs) zero d h = refl
get_block (b ∷ bs) (suc k) d h = get_block bs k d (omega arith)

pub hollow_set : (bs : List Body) (k : ℕ) (b : Body) → k < length bs
    → b.args ≡ (slice_index_or bs k b).args
    → hollow (suc k) (regions_of (slice_set bs k b)) ≡ hollow (suc k) (regions_of bs)
hollow_set [] k b h e = absurd (omega arith)
hollow_set (x ∷ bs) zero b h e = ap (λ a. region a no_ops (regions_of bs)) e
hollow_set (x ∷ bs) (suc k) b h e = ap (region x.args no_ops) (hollow_set bs k b (omega arith) e)

pub hollow_emptied : (bs : List Body) (k : ℕ) (old new : Body) → k < length bs → old ≡ slice_index_or bs k old
    → new.args ≡ old.args → hollow (k + 1) (regions_of (slice_set bs k new)) ≡ hollow (k + 1) (regions_of bs)
hollow_emptied bs k old new h e q =
    let w : slice_index_or bs k old ≡ slice_index_or bs k new = in_range bs k old new h in
    let a : new.args ≡ (slice_index_or bs k new).args = q ∙ ap (λ (b : Body). b.args) (e ∙ w) in
    ap (λ j. hollow j (regions_of (slice_set bs k new))) (add-one k) ∙ hollow_set bs k new h a
    ∙ ap (λ j. hollow j (regions_of bs)) (sym (add-one k))
  where
    in_range : (bs : List Body) (k : ℕ) (d e : Body) → k < length bs → slice_index_or bs k d ≡ slice_index_or bs k e
    in_range [] k d e h = absurd (omega arith)
    in_range (b ∷ bs) zero d e h = refl
    in_range (b ∷ bs) (suc k) d e h = in_range bs k d e (omega arith)

pub partly_all : (x : Node) (k : ℕ) (bs : List Body) → k ≡ length bs
    → leaf_of (record x { regions = args_in bs }) ≡ partly x k (regions_of bs)
partly_all x k bs e =
    let z = hollow_all k (regions_of bs) (omega (arith, length_regions bs)) ∙ ap bare (args_regions bs) in
    ap (λ (rs : Regions). let t : Tree = record {
      name = x.name;
      kind = x.kind;
      attrs = x.attrs;
      operands = x.operands;
      results = x.results;
      regions = rs;
    } in t) (sym z)

-- ---- one block more

more_true : (a b c : Bool) → (b ≡ false → c ≡ false) → (a || (c || false)) ≡ true → (a || (b || false)) ≡ true
more_true true b c f h = refl
more_true false true c f h = refl
more_true false false true f h = (let z = f refl in cc)
more_true false false false f h = h

abbrev pub IsNew : Tree → Tree → Type 0
IsNew t u = (n : OpName) → ops_has n (cons t no_ops) ≡ true → ops_has n (cons u no_ops) ≡ false

-- what a block and the part before it are
pub record Parts (x : Node) (k : ℕ) (block : Ops) (rs rs2 : Regions) (u : Tree) (p : OpName) (r i : ℕ) : Type 0 where
  pub is_new : IsNew (partly x (k + 1) rs2) u
  pub distinct : OpsDistinct (cons (partly x (k + 1) rs2) no_ops)
  pub count : tree_count (partly x k rs) ≡ tree_count (partly x (k + 1) rs2) + ops_count block
  pub short : AreShort (hollow k rs) → AreShort (hollow (k + 1) rs2) × ((ops_length block < 2 ^ 32) × OpsShort block)
  pub place : OpsWhere x.name (StandsAt k 0 None) (cons (tree_put p r i (partly x (k + 1) rs2) u) no_ops)
  pub other : ops_has x.name block ≡ false
  pub block_new : (n : OpName) → ops_has n block ≡ true
      → ops_has n (cons (tree_put p r i (partly x (k + 1) rs2) u) no_ops) ≡ false
  pub own : OpsDistinct block
  pub filled : puts_in x.name k 0 block (tree_put p r i (partly x (k + 1) rs2) u) ≡ tree_put p r i (partly x k rs) u

pub record Parts2 (x : Node) (k : ℕ) (block : Ops) (rs R : Regions) (u : Tree) (p : OpName) (r i : ℕ) : Type 0 where
  pub is_new : IsNew (partly x 0 R) u
  pub distinct : OpsDistinct (cons (partly x 0 R) no_ops)
  pub count : tree_count (partly x k rs) ≡ tree_count (partly x 0 R) + ops_count block
  pub short : AreShort (hollow k rs) → AreShort R × ((ops_length block < 2 ^ 32) × OpsShort block)
  pub place : OpsWhere x.name (StandsAt k 0 None) (cons (tree_put p r i (partly x 0 R) u) no_ops)
  pub other : ops_has x.name block ≡ false
  pub block_new : (n : OpName) → ops_has n block ≡ true
      → ops_has n (cons (tree_put p r i (partly x 0 R) u) no_ops) ≡ false
  pub own : OpsDistinct block
  pub filled : puts_in x.name k 0 block (tree_put p r i (partly x 0 R) u) ≡ tree_put p r i (partly x k rs) u

none_cons : (a b : Bool) → a ≡ false → b ≡ false → (a || (b || false)) ≡ false
none_cons a b p q = rw (p, q) refl

name_other : (f : OpName → Bool) (n o : OpName) → f n ≡ false → f o ≡ true → eqb n.0 o.0 ≡ false
name_other f n o a b = elim (cases_Bool (eqb n.0 o.0)) [
  | inl e ↦ (
      let mk : ℕ → OpName = λ j. record { 0 = j } in
      let q : n ≡ o = ap mk (eqb-true n.0 o.0 e) in
      let z : true ≡ false = sym b ∙ ap f (sym q) ∙ a in cc)
  | inr e ↦ e
]

parts2 : (x : Node) (k : ℕ) (block : Ops) (rs : Regions) (u : Tree) (p : OpName) (r i : ℕ)
    → regions_get k rs ≡ Some block → IsNew (partly x k rs) u → OpsDistinct (cons (partly x k rs) no_ops)
    → Parts2 x k block rs (hollow (suc k) rs) u p r i
parts2 x k block rs u p r i e new d =
    let R = hollow (suc k) rs in
    let s : Step k block rs = step k block rs e in
    let a : Apart k block rs = apart k block rs e d.1.1.1.0 in
    let own : regions_has x.name R ≡ false = s.fewer x.name d.0 in
    let self : ops_has x.name (cons (partly x k rs) no_ops) ≡ true =
    or_left (eqb x.name.0 x.name.0) (regions_has x.name (hollow k rs) || false) (eq-eqb x.name.0 x.name.0 refl)
    in
    let lacks : ops_has x.name (cons u no_ops) ≡ false = new x.name self in
    let same : eqb x.name.0 x.name.0 ≡ true = eq-eqb x.name.0 x.name.0 refl in
    let c = s.count in
    record {
      is_new = λ n h. new n (more_true (eqb x.name.0 n.0) (regions_has n (hollow k rs)) (regions_has n R)
          (s.fewer n) h);
      distinct = (own, (refl, ((λ y h. refl), (a.rest, tt))));
      count = omega arith;
      short = s.short;
      place = filled_where p r i (partly x 0 R) u (StandsAt k 0 None) s.first own lacks;
      other = s.inside x.name d.0;
      block_new = λ n h.
          let inner : regions_has n (hollow k rs) ≡ true = elim (cases_Bool (regions_has n (hollow k rs))) [
            | inl t ↦ t
            | inr f ↦ (let z : true ≡ false = sym h ∙ s.inside n f in cc)
          ] in
          let f = name_other (λ y. regions_has y (hollow k rs)) x.name n d.0 inner in
          let g : ops_has n (cons (partly x 0 R) no_ops) ≡ false =
          none_cons (eqb x.name.0 n.0) (regions_has n R) f (a.other n h) in
          let w = new n (or_right (eqb x.name.0 n.0) (regions_has n (hollow k rs) || false)
          (or_left (regions_has n (hollow k rs)) false inner))
          in
          subst (λ (o : Ops). ops_has n o ≡ false) (put_first p r i (partly x 0 R) u)
          (put_none n p r i (partly x 0 R) (cons u no_ops) g w);
      own = a.own;
      filled = puts_put x.name k 0 block p r i (partly x 0 R) u same lacks
          ∙ ap (λ (q : Regions). tree_put p r i (partly x 0 q) u) s.filled;
    }

pub parts : (x : Node) (k : ℕ) (block : Ops) (rs rs2 : Regions) (u : Tree) (p : OpName) (r i : ℕ)
    → regions_get k rs ≡ Some block → hollow (k + 1) rs2 ≡ hollow (k + 1) rs → IsNew (partly x k rs) u
    → OpsDistinct (cons (partly x k rs) no_ops) → Parts x k block rs rs2 u p r i
parts x k block rs rs2 u p r i e l new d =
    let h : hollow (suc k) rs ≡ hollow (k + 1) rs2 = ap (λ j. hollow j rs) (sym (add-one k)) ∙ sym l in
    let q : Parts2 x k block rs (hollow (k + 1) rs2) u p r i = rw h at (parts2 x k block rs u p r i e new d) in
    record {
      is_new = q.is_new;
      distinct = q.distinct;
      count = q.count;
      short = q.short;
      place = q.place;
      other = q.other;
      block_new = q.block_new;
      own = q.own;
      filled = q.filled;
    }

-- ---- sizes

size_step : (k : ℕ) (block : Ops) (rs : Regions) → regions_get k rs ≡ Some block
    → regions_size (hollow k rs) ≡ regions_size (hollow (suc k) rs) + ops_size block
size_step k block no_regions e = cc
size_step zero block (region args ops rest) e = (let q : ops ≡ block = cc in omega (arith, ap ops_size q))
size_step (suc k) block (region args ops rest) e = omega (arith, size_step k block rest e)

size_long : (k : ℕ) (rs : Regions) → regions_length rs ≤ regions_size (hollow k rs)
size_long zero no_regions = omega arith
size_long zero (region args ops rest) = omega (arith, size_long 0 rest)
size_long (suc k) no_regions = omega arith
size_long (suc k) (region args ops rest) = omega (arith, size_long k rest)

pub falls_from : (k : ℕ) (block : Ops) (rs rs2 : Regions) → regions_get k rs ≡ Some block
    → hollow (k + 1) rs2 ≡ hollow (k + 1) rs → k < regions_length rs
    → (2 * (regions_size (hollow (k + 1) rs2) - (k + 1)) < 2 * (regions_size (hollow k rs) - k))
    × (2 * ops_size block < 2 * (regions_size (hollow k rs) - k))
falls_from k block rs rs2 e l h =
    let q : regions_size (hollow (k + 1) rs2) ≡ regions_size (hollow (suc k) rs) =
    ap regions_size (l ∙ ap (λ j. hollow j rs) (add-one k))
    in
    let s = size_step k block rs e in
    let w = size_long (suc k) rs in
    (omega (arith, q, s, w), omega (arith, s, w))

pub fill_size : (t : Tree) → 2 * (regions_size (hollow 0 t.regions) - 0) < 2 * tree_size t + 1
fill_size t = omega arith

-- ---- one operation more

-- before an operation is put
pub record Before (n : OpName) (k j : ℕ) (sibling : Option OpName) (ops : Ops) (u : Tree) (size : ℕ) : Type 0 where
  pub place : OpsWhere n (StandsAt k j sibling) (cons u no_ops)
  pub other : ops_has n ops ≡ false
  pub is_new : (x : OpName) → ops_has x ops ≡ true → ops_has x (cons u no_ops) ≡ false
  pub distinct : OpsDistinct ops
  pub names : OpsDistinct (cons u no_ops)
  pub room : tree_count u + ops_count ops ≤ size
  pub short : OpsShort ops

-- the first of them
pub record First (c : Tree) (u : Tree) (size : ℕ) : Type 0 where
  pub is_new : IsNew c u
  pub distinct : OpsDistinct (cons c no_ops)
  pub room : tree_count u + tree_count c ≤ size
  pub short : TreeIsShort c

front : (a b c : Bool) → (a || (b || false)) ≡ true → (a || (b || c)) ≡ true
front true b c h = refl
front false true c h = refl
front false false c h = (let z : false ≡ true = h in cc)

lacks_front : (a b c : Bool) → (a || (b || c)) ≡ false → ((a || (b || false)) ≡ false) × (c ≡ false)
lacks_front a b c h = let p = parts3 a b c h in (none_cons a b p.0 p.1.0, p.1.1)

pub first_op : (n : OpName) (k j : ℕ) (sibling : Option OpName) (c : Tree) (rest : Ops) (u : Tree) (size : ℕ)
    → Before n k j sibling (cons c rest) u size → First c u size
first_op n k j sibling c rest u size b =
    let d = b.distinct in
    let r = b.room in
    record {
      is_new = λ x h. b.is_new x (front (eqb c.name.0 x.0) (regions_has x c.regions) (ops_has x rest) h);
      distinct = (d.0, (refl, ((λ y h. refl), (d.1.1.1.0, tt))));
      room = omega arith;
      short = record { lists = b.short.0; inside = b.short.1.0 };
    }

pub next_op : (n : OpName) (k j : ℕ) (sibling : Option OpName) (c : Tree) (rest : Ops) (u : Tree) (size : ℕ)
    (m : OpName)
    → Before n k j sibling (cons c rest) u size → m ≡ c.name → OpsDistinct (cons (tree_put n k j c u) no_ops)
    → tree_count (tree_put n k j c u) ≤ tree_count u + tree_count c
    → Before n k (j + 1) (Some m) rest (tree_put n k j c u) size
next_op n k j sibling c rest u size m b e names at_most =
    let d = b.distinct in
    let l = lacks_front (eqb c.name.0 n.0) (regions_has n c.regions) (ops_has n rest) b.other in
    let r = b.room in
    record {
      place = rw (e, add-one) (place_next n k j sibling c u l.0 b.names b.place);
      other = l.1;
      is_new = λ x h.
          let f : eqb c.name.0 x.0 ≡ false = name_other (λ y. ops_has y rest) c.name x d.1.0 h in
          let g : regions_has x c.regions ≡ false = elim (cases_Bool (regions_has x c.regions)) [
            | inl t ↦ (let z : true ≡ false = sym h ∙ d.1.1.0 x t in cc)
            | inr t ↦ t
          ] in
          let w = b.is_new x (or_right (eqb c.name.0 x.0) (regions_has x c.regions || ops_has x rest)
          (or_right (regions_has x c.regions) (ops_has x rest) h))
          in
          subst (λ (o : Ops). ops_has x o ≡ false) (put_first n k j c u)
          (put_none x n k j c (cons u no_ops) (none_cons (eqb c.name.0 x.0) (regions_has x c.regions) f g) w);
      distinct = d.1.1.1.1;
      names = names;
      room = omega arith;
      short = b.short.1.1;
    }
