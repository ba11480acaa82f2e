-- The nodes and links once a leaf is put hold the tree with it.
use Rattle.xf_ir.specs.RuleBlocks.{block_args}
use Rattle.std.proofs.Common.{◌≡◌, ℕ, zero, suc, ◌*◌, ◌<◌, List, [], ◌∷◌, length}
use Rattle.std.proofs.Common.{slice_index, slice_set, sym, ◌∙◌, ap, arith, refl, true}
use Rattle.std.proofs.Common.{false, eqb, ◌||◌, inl, inr}
use Rattle.std.specs.Prelude.{Some, None}
use Rattle.std.proofs.lemmas.List.{get_or-set_same, get_or-set_other, length-set}
use Rattle.std.proofs.lemmas.Bool.{cases_eq, eqb-true, eqb-false, eq-eqb, cases_Bool, false_from_ne_true}
use Rattle.std.proofs.lemmas.Bool.{or_left}
use Rattle.xf_ir.specs.declared.name.OpName.{OpName}
use Rattle.xf_ir.specs.Tree.{no_ops, op, Regions, no_regions, region, Tree, cons}
use Rattle.xf_rings.specs.Ring.{linked}
use Rattle.xf_rings.proofs.PathLemmas.{linked_other}
use Rattle.xf_arena_bed.specs.declared.node.Node.{Node}
use Rattle.xf_arena_tree.specs.Names.{kids, ops_has, regions_has}
use Rattle.xf_arena_bed.specs.Sits.{Nodes, node_at, holds, place, head, item, Sits, home_of}
use Rattle.xf_arena_bed.specs.Sits.{RegionsSit, AreApart, Holds}
use Rattle.xf_arena_tree.specs.Without.{OpsWhere}
use Rattle.xf_arena_tree.specs.Puts.{ops_put, tree_put, InRange}
use Rattle.xf_arena_bed.proofs.PlaceLemmas.{Placed, one_name, place_kept}
use Rattle.xf_arena_bed.proofs.LeafLemmas.{holder, ops_placed}
use Rattle.xf_arena_bed.proofs.PutLemmas.{Put, SplitAt, ops_put_sit, one_parent, IsBefore}
use Rattle.xf_arena_tree.proofs.WithoutLemmas.{none3, no_kids}
use Rattle.xf_arena_tree.proofs.PutTreeLemmas.{OnlyName, put_some, put_new, put_distinct}

place_new : (nodes : Nodes) (n : OpName) (s : ℕ) (y : Node) → s < length nodes → y.name ≡ n
    → ((i : ℕ) → holds n (node_at nodes i) ≡ false) → place n (slice_set nodes s (Some y)) ≡ s
place_new [] n s y l e h = absurd (omega arith)
place_new (x ∷ xs) n zero y l e h = rw (e, eq-eqb n.0 n.0 refl) refl
place_new (x ∷ xs) n (suc s) y l e h = rw (h 0, place_new xs n s y (omega arith) e (λ i. h (suc i))) refl

leaf_sit : (nodes : Nodes) (next : List ℕ) (n : OpName) (r : ℕ) (rs : Regions) → kids rs ≡ []
    → RegionsSit nodes next n r rs
leaf_sit nodes next n r no_regions e = tt
leaf_sit nodes next n r (region args no_ops rest) e = (tt, leaf_sit nodes next n (suc r) rest e)
leaf_sit nodes next n r (region args (op m k ds os ts rs more) rest) e = cc

unsome : (a b : Node) → Some a ≡ Some b → a ≡ b
unsome a b e = cc

clash : (nodes : Nodes) (n : OpName) (i : ℕ) (a : Node) → ((i : ℕ) → holds n (node_at nodes i) ≡ false)
    → node_at nodes i ≡ Some a → a.name.0 ≡ n.0 → ⊥
clash nodes n i a un e k = let c : true ≡ false = sym (eq-eqb a.name.0 n.0 k) ∙ ap (holds n) (sym e) ∙ un i in cc

name_in : (a b : Node) → Some a ≡ Some b → a.name ≡ b.name
name_in a b e = let q : a ≡ b = unsome a b e in ap (λ (x : Node). x.name) q

pub self_has : (u : Tree) → ops_has u.name (cons u no_ops) ≡ true
self_has u = or_left (eqb u.name.0 u.name.0) (regions_has u.name u.regions || false) (eq-eqb u.name.0 u.name.0 refl)

root_name : (p : OpName) (r i : ℕ) (t u : Tree) → (tree_put p r i t u).name ≡ u.name
root_name p r i t u = elim (cases_Bool (eqb u.name.0 p.0)) [ inl e ↦ rw e refl | inr e ↦ rw e refl ]

apart_put : (nodes : Nodes) (s : ℕ) (y : Node) → s < length nodes → AreApart nodes
    → ((i : ℕ) → holds y.name (node_at nodes i) ≡ false) → (i j : ℕ) (a b : Node)
    → node_at (slice_set nodes s (Some y)) i ≡ Some a → node_at (slice_set nodes s (Some y)) j ≡ Some b
    → a.name.0 ≡ b.name.0 → i ≡ j
apart_put nodes s y l ap_ un i j a b p q k =
    let at_s : node_at (slice_set nodes s (Some y)) s ≡ Some y = get_or-set_same nodes s (Some y) None l in
    let other : (m : ℕ) → (m ≡ s → ⊥)
    → node_at (slice_set nodes s (Some y)) m ≡ node_at nodes m =
    λ m n. get_or-set_other nodes s m (Some y) None n in
    elim (cases_eq i s) [
      | inl e ↦ elim (cases_eq j s) [
        | inl f ↦ e ∙ sym f
        | inr f ↦
            let w : y.name ≡ a.name = name_in y a (sym at_s ∙ ap (node_at (slice_set nodes s (Some y))) (sym e) ∙ p) in
            absurd (clash nodes y.name j b un (sym (other j f) ∙ q) (sym k ∙ ap (λ (x : OpName). x.0) (sym w)))
      ]
      | inr e ↦ elim (cases_eq j s) [
        | inl f ↦
            let w : y.name ≡ b.name = name_in y b (sym at_s ∙ ap (node_at (slice_set nodes s (Some y))) (sym f) ∙ q) in
            absurd (clash nodes y.name i a un (sym (other i e) ∙ p) (k ∙ ap (λ (x : OpName). x.0) (sym w)))
        | inr f ↦ ap_.same i j a b (sym (other i e) ∙ p) (sym (other j f) ∙ q) k
      ]
    ]

-- before a leaf is put
pub record Ready (nodes : Nodes) (next : List ℕ) (root : ℕ) (u : Tree) (s : ℕ) (t : Tree) (p : OpName)
    (r i before : ℕ) : Type 0 where
  pub holds : Holds nodes next root u
  pub within : s < length nodes
  pub is_free : node_at nodes s ≡ None
  pub loose : slice_index next (item s) ≡ item s
  pub alone : slice_index next (head s) ≡ head s
  pub is_new : ops_has t.name (cons u no_ops) ≡ false
  pub leaf : kids t.regions ≡ []
  pub parent : ops_has p (cons u no_ops) ≡ true
  pub split : OpsWhere p (SplitAt nodes p r i before) (cons u no_ops)
  pub range : OpsWhere p (InRange r i) (cons u no_ops)
  pub spot : IsBefore nodes p before

abbrev pub node_of : Nodes → OpName → ℕ → Tree → Node
node_of nodes p r t = record {
  name = t.name;
  kind = t.kind;
  attrs = t.attrs;
  operands = t.operands;
  results =
      t.results;
  regions = block_args t.regions;
  parent = home_of nodes p r;
}

pub first : (p : OpName) (r i : ℕ) (t u : Tree) → ops_put p r i t (cons u no_ops) ≡ cons (tree_put p r i t u) no_ops
first p r i t u = elim (cases_Bool (eqb u.name.0 p.0)) [ inl e ↦ rw e refl | inr e ↦ rw e refl ]

pub holds_put : (nodes : Nodes) (next : List ℕ) (root : ℕ) (u : Tree) (s : ℕ) (t : Tree) (p : OpName)
    (r i before : ℕ) → Ready nodes next root u s t p r i before
    → Holds (slice_set nodes s (Some (node_of nodes p r t))) (linked before (item s) next) root (tree_put p r i t u)
holds_put nodes next root u s t p r i before y =
    let n = t.name in
    let new = Some (node_of nodes p r t) in
    let nodes2 = slice_set nodes s new in
    let h = y.holds in
    let placed : (x : OpName) → ops_has x (cons u no_ops) ≡ true
    → Placed nodes x = λ x q. ops_placed nodes next None (cons u no_ops) x h.sits q in
    let pl : Placed nodes p = placed p y.parent in
    let lives : (x : OpName) → Placed nodes x → eqb n.0 x.0 ≡ false = λ x q.
    false_from_ne_true (eqb n.0 x.0) (λ e.
    let z = holder x (node_at nodes (place x nodes)) q in
    let k = h.known (place x nodes) z.0 z.1.0 in
    let mk : ℕ → OpName = λ i. record { 0 = i } in
    let w : z.0.name ≡ n = ap mk (z.1.1 ∙ sym (eqb-true n.0 x.0 e)) in
    let c : true ≡ false = sym k ∙ ap (λ (m : OpName). ops_has m (cons u no_ops)) w ∙ y.is_new in cc) in
    let fresh : (x : OpName) → Placed nodes x → place x nodes ≡ s → ⊥ = λ x q e.
    let c : false ≡ true = sym (ap (holds x) (ap (node_at nodes) e ∙ y.is_free)) ∙ q in cc in
    let put : Put nodes nodes2 next (linked before (item s) next) p s before = record {
      size = h.size;
      within = y.within;
      fresh = fresh;
      places = λ x q. place_kept nodes x s new (ap (holds x) y.is_free) (lives x q);
      kept = λ x q. get_or-set_other nodes s (place x nodes) new None (fresh x q);
      links = refl;
      no_head = λ m q f e. elim y.spot [
        | inl b ↦ eqb-false m.0 p.0 f (one_name m p (node_at nodes (place p nodes))
            (let hp : place m nodes ≡ place p nodes = omega arith in rw hp at q) pl)
        | inr k ↦ (let b = k.is in omega arith)
      ];
      no_item = λ m x q w f e. elim y.spot [
        | inl b ↦ omega arith
        | inr k ↦ (
            let hp : place k.name nodes ≡ place x nodes = (let b = k.is in omega arith) in
            eqb-false m.0 p.0 f (one_parent m p (node_at nodes (place x nodes)) w (rw hp at k.below)))
      ];
    } in
    let next2 = linked before (item s) next in
    let unheld : (g : ℕ) → holds n (node_at nodes g) ≡ false = λ g.
    false_from_ne_true (holds n (node_at nodes g)) (λ e.
    let z = holder n (node_at nodes g) e in
    let k = h.known g z.0 z.1.0 in
    let w : z.0.name ≡ n = (let mk : ℕ → OpName = λ j. record { 0 = j } in ap mk z.1.1) in
    let c : true ≡ false = sym k ∙ ap (λ (m : OpName). ops_has m (cons u no_ops)) w ∙ y.is_new in cc) in
    let tp : place n nodes2 ≡ s = place_new nodes n s (node_of nodes p r t) y.within refl unheld in
    let at_new : node_at nodes2 s ≡ new = get_or-set_same nodes s new None y.within in
    let row : slice_index next2 (head s) ≡ head s = linked_other next before (item s) (head s)
    (λ e. elim y.spot [ inl b ↦ fresh p pl (omega arith) | inr k ↦ (let b = k.is in omega arith) ])
    (λ e. omega arith) ∙ y.alone in
    let sit : Sits nodes2 next2 (home_of nodes p r) n t.kind t.attrs t.operands t.results (block_args t.regions)
    (kids t.regions) = record { node = rw tp at_new; row = rw (tp, y.leaf) row } in
    let only : OnlyName t = λ x f. none3 (eqb n.0 x.0) (regions_has x t.regions) false f
    (no_kids x t.regions y.leaf) refl in
    let e = first p r i t u in
    record {
      sits = rw e at (ops_put_sit nodes nodes2 next next2 p s before put r i t None (cons u no_ops) tp
          (sit, (leaf_sit nodes2 next2 n 0 t.regions y.leaf, tt)) h.sits h.distinct y.split);
      known = λ g x q. elim (cases_eq g s) [
        | inl j ↦
            let w : new ≡ Some x = sym at_new ∙ ap (node_at nodes2) (sym j) ∙ q in
            let nm : n ≡ x.name = name_in (node_of nodes p r t) x w in
            rw (← nm) (rw e at (put_new p r i t (cons u no_ops) y.range y.parent))
        | inr j ↦
            let w : node_at nodes g ≡ Some x = sym (get_or-set_other nodes s g new None j) ∙ q in
            rw e at (put_some x.name p r i t (cons u no_ops) y.range (h.known g x w))
      ];
      apart = record {
        same = λ g j a b q z k. apart_put nodes s
            (node_of nodes p r t) y.within h.apart unheld g j a b q z k;
      };
      distinct = rw e at (put_distinct p r i t (cons u no_ops) only y.leaf y.is_new h.distinct);
      size = length-set (slice_set next (item s) (slice_index next before)) before (item s)
          ∙ length-set next (item s) (slice_index next before) ∙ h.size
          ∙ ap (λ k. 2 * k) (sym (length-set nodes s new));
      top = h.top ∙ rw (root_name p r i t u) (sym (put.places u.name (placed u.name (self_has u))));
    }
