-- An operation unlinked and linked elsewhere: the nodes and links hold the tree in which it is moved.
use Rattle.std.proofs.Common.{◌≡◌, ℕ, ◌*◌, ◌<◌, List, [], ◌∷◌, length}
use Rattle.std.proofs.Common.{slice_index, slice_set, sym, ◌∙◌, ap, arith, refl, true, false}
use Rattle.std.proofs.Common.{eqb, inl, inr}
use Rattle.std.specs.Prelude.{map, Option, Some, None}
use Rattle.std.proofs.lemmas.List.{get_or-set_same, get_or-set_other, length-set}
use Rattle.std.proofs.lemmas.Bool.{cases_eq, eqb-false, eq-eqb, ne_eqb}
use Rattle.xf_ir.specs.declared.name.OpName.{OpName}
use Rattle.xf_ir.specs.Tree.{no_ops, Tree, cons}
use Rattle.xf_rings.specs.Ring.{Path, linked, unlinked, After}
use Rattle.xf_rings.specs.Groups.{Lacks}
use Rattle.xf_rings.proofs.PathLemmas.{path_other, path_beside}
use Rattle.xf_arena_bed.specs.declared.node.Node.{Node}
use Rattle.xf_arena_tree.specs.Names.{ops_has}
use Rattle.xf_arena_tree.specs.Without.{tree_without, OpsWhere}
use Rattle.xf_arena_tree.specs.Puts.{InRange}
use Rattle.xf_arena_bed.specs.Sits.{Nodes, node_at, holds, place, head, item, item_of, home_of}
use Rattle.xf_arena_bed.specs.Sits.{OpsSit, Holds}
use Rattle.xf_arena_bed.proofs.PlaceLemmas.{Placed, AllPlaced, one_name, place_kept, place_within}
use Rattle.xf_arena_bed.proofs.LeafLemmas.{holder, other_name, place_is}
use Rattle.xf_arena_bed.proofs.CutLemmas.{Cut, NoneOf, lacks, ops_cut}
use Rattle.xf_arena_bed.proofs.PutLemmas.{Put, SplitAt, IsBefore, AllUnder, under, one_parent}

-- ---- what is given, and what follows for names

-- the slot is emptied
abbrev pub emptied : Nodes → ℕ → Nodes
emptied nodes s = slice_set nodes s None

abbrev pub rehomed : Nodes → OpName → ℕ → Node → Node
rehomed nodes p r x = record x { parent = home_of nodes p r }

abbrev pub moved_nodes : Nodes → ℕ → OpName → ℕ → Node → Nodes
moved_nodes nodes s p r x = slice_set nodes s (Some (rehomed nodes p r x))

abbrev pub moved_links : ℕ → ℕ → ℕ → List ℕ → List ℕ
moved_links was before s next = linked before (item s) (unlinked was (item s) next)

-- before `o`, which is in slot s behind `was`, is linked behind `before` in region r of p
pub record Moving (nodes : Nodes) (next : List ℕ) (root : ℕ) (u : Tree) (o p : OpName) (s r i was before : ℕ)
    (x : Node) : Type 0 where
  pub held : Holds nodes next root u
  pub low : eqb u.name.0 o.0 ≡ false
  pub at : node_at nodes s ≡ Some x
  pub name : x.name ≡ o
  pub after : After next was (item s)
  pub parent : ops_has p (cons (tree_without o u) no_ops) ≡ true
  pub split : OpsWhere p (SplitAt (emptied nodes s) p r i before) (cons (tree_without o u) no_ops)
  pub range : OpsWhere p (InRange r i) (cons (tree_without o u) no_ops)
  pub spot : IsBefore (emptied nodes s) p before

-- where o stands
pub record Here (nodes : Nodes) (next : List ℕ) (u : Tree) (o : OpName) (s : ℕ) : Type 0 where
  pub placed : Placed nodes o
  pub place : place o nodes ≡ s
  pub within : s < length nodes
  pub has : ops_has o (cons u no_ops) ≡ true

pub here : (nodes : Nodes) (next : List ℕ) (root : ℕ) (u : Tree) (o : OpName) (s : ℕ) (x : Node)
    → Holds nodes next root u → node_at nodes s ≡ Some x → x.name ≡ o → Here nodes next u o s
here nodes next root u o s x h e n =
    let held : holds o (node_at nodes s) ≡ true = rw (e, n) (eq-eqb o.0 o.0 refl) in
    let pl = place_is nodes next root u o s h held in
    record {
      placed = pl.0;
      place = pl.1;
      within = (let q = pl.1 in omega (arith, place_within nodes o pl.0));
      has = rw n at (h.known s x e);
    }

-- a name that has a slot once the slot of o is emptied is another one
out_other : (nodes : Nodes) (next : List ℕ) (root : ℕ) (u : Tree) (o : OpName) (s : ℕ) (x : Node) (n : OpName)
    → Holds nodes next root u → node_at nodes s ≡ Some x → x.name ≡ o → Placed (emptied nodes s) n
    → eqb n.0 o.0 ≡ false
out_other nodes next root u o s x n h e q p =
    let w = here nodes next root u o s x h e q in
    let i = place n (emptied nodes s) in
    let z = holder n (node_at (emptied nodes s) i) p in
    elim (cases_eq i s) [
      | inl j ↦ (
          let c : None ≡ Some z.0 =
          sym (get_or-set_same nodes s None None w.within) ∙ ap (node_at (emptied nodes s)) (sym j) ∙ z.1.0
          in
          absurd (cc))
      | inr j ↦ ne_eqb n.0 o.0 (λ k.
          let a : node_at nodes i ≡ Some z.0 = sym (get_or-set_other nodes s i None None j) ∙ z.1.0 in
          j (h.apart.same i s z.0 x a e (z.1.1 ∙ k ∙ ap (λ (y : OpName). y.0) (sym q))))
    ]

-- another name keeps its slot and node
out_kept : (nodes : Nodes) (o : OpName) (s : ℕ) (n : OpName) (y : Option Node) → holds o (node_at nodes s) ≡ true
    → eqb n.0 o.0 ≡ false → holds n y ≡ false → place n (slice_set nodes s y) ≡ place n nodes
out_kept nodes o s n y h f g = place_kept nodes n s y (other_name n o (node_at nodes s) h f) g

cut_of : (nodes : Nodes) (next : List ℕ) (root : ℕ) (u : Tree) (o : OpName) (s was : ℕ) (x : Node)
    → Holds nodes next root u → node_at nodes s ≡ Some x → x.name ≡ o → After next was (item s)
    → Cut nodes (emptied nodes s) next (unlinked was (item s) next) o
cut_of nodes next root u o s was x h e q a =
    let w = here nodes next root u o s x h e q in
    let same : item_of nodes o ≡ item s = ap item w.place in
    let held : holds o (node_at nodes s) ≡ true = rw w.place at w.placed in
    record {
      before = was;
      size = h.size;
      placed = w.placed;
      after = rw same a;
      links = rw same refl;
      places = λ n g. out_kept nodes o s n None held g refl;
      nodes_kept = λ n pl g. get_or-set_other nodes s (place n nodes) None None
          (λ i. eqb-false n.0 o.0 g (one_name n o (node_at nodes s) (rw i at pl) held));
    }

-- what is left sits without it
pub left_sits : (nodes : Nodes) (next : List ℕ) (root : ℕ) (u : Tree) (o : OpName) (s was : ℕ) (x : Node)
    → Holds nodes next root u → eqb u.name.0 o.0 ≡ false → node_at nodes s ≡ Some x → x.name ≡ o
    → After next was (item s)
    → OpsSit (emptied nodes s) (unlinked was (item s) next) None (cons (tree_without o u) no_ops)
left_sits nodes next root u o s was x h f e q a =
    rw f at (ops_cut nodes (emptied nodes s) next (unlinked was (item s) next) o
    (cut_of nodes next root u o s was x h e q a) None (cons u no_ops) h.sits h.distinct)

-- ---- what stays

-- in the emptied slots, as in all
pub record Stays (nodes : Nodes) (s : ℕ) (n o : OpName) : Type 0 where
  pub other : eqb n.0 o.0 ≡ false
  pub same : place n (emptied nodes s) ≡ place n nodes
  pub away : place n nodes ≡ s → ⊥
  pub placed : Placed nodes n

pub stays : (nodes : Nodes) (next : List ℕ) (root : ℕ) (u : Tree) (o : OpName) (s : ℕ) (x : Node) (n : OpName)
    → Holds nodes next root u → node_at nodes s ≡ Some x → x.name ≡ o → Placed (emptied nodes s) n
    → Stays nodes s n o
stays nodes next root u o s x n h e q p =
    let w = here nodes next root u o s x h e q in
    let held : holds o (node_at nodes s) ≡ true = rw w.place at w.placed in
    let f = out_other nodes next root u o s x n h e q p in
    let same = out_kept nodes o s n None held f refl in
    let away : place n nodes ≡ s → ⊥ = λ j.
    let c : false ≡ true =
    sym (ap (holds n) (ap (node_at (emptied nodes s)) (same ∙ j) ∙ get_or-set_same nodes s None None w.within)) ∙ p
    in cc
    in
    let kept : node_at (emptied nodes s) (place n (emptied nodes s)) ≡ node_at nodes (place n nodes) =
    ap (node_at (emptied nodes s)) same ∙ get_or-set_other nodes s (place n nodes) None None away
    in
    record { other = f; same = same; away = away; placed = ap (holds n) (sym kept) ∙ p }

pub before_back : (nodes : Nodes) (next : List ℕ) (root : ℕ) (u : Tree) (o p : OpName) (s r i was before : ℕ) (x : Node)
    → Moving nodes next root u o p s r i was before x → Placed (emptied nodes s) p → IsBefore nodes p before
before_back nodes next root u o p s r i was before x y pl = elim y.spot [
  | inl b ↦ inl (b ∙ ap head (stays nodes next root u o s x p y.held y.at y.name pl).same)
  | inr k ↦ inr (
      let w = stays nodes next root u o s x k.name y.held y.at y.name k.placed in
      let kept = get_or-set_other nodes s (place k.name nodes) None None w.away in
      record {
        name = k.name;
        is = k.is ∙ ap item w.same;
        placed = w.placed;
        below = ap (under p) (sym kept) ∙ ap (λ j. under p (node_at (emptied nodes s) j)) (sym w.same) ∙ k.below;
      })
]

-- no row but that of p has `before`
head_beside : (nodes : Nodes) (p : OpName) (before : ℕ) (n : OpName) → IsBefore nodes p before → Placed nodes p
    → Placed nodes n → eqb n.0 p.0 ≡ false → head (place n nodes) ≡ before → ⊥
head_beside nodes p before n b pl q f e = elim b [
  | inl c ↦ eqb-false n.0 p.0 f (one_name n p (node_at nodes (place p nodes))
      (let hp : place n nodes ≡ place p nodes = omega arith in rw hp at q) pl)
  | inr k ↦ (let c = k.is in omega arith)
]

item_beside : (nodes : Nodes) (p : OpName) (before : ℕ) (m n : OpName) → IsBefore nodes p before
    → under m (node_at nodes (place n nodes)) ≡ true → eqb m.0 p.0 ≡ false → item_of nodes n ≡ before → ⊥
item_beside nodes p before m n b w f e = elim b [
  | inl c ↦ omega arith
  | inr k ↦ (
      let hp : place k.name nodes ≡ place n nodes = (let c = k.is in omega arith) in
      eqb-false m.0 p.0 f (one_parent m p (node_at nodes (place n nodes)) w (rw hp at k.below)))
]

row_beside : (nodes : Nodes) (p : OpName) (before : ℕ) (m : OpName) (ns : List OpName) → IsBefore nodes p before
    → eqb m.0 p.0 ≡ false → AllUnder nodes m ns → Lacks before (map (item_of nodes) ns)
row_beside nodes p before m [] b f a = tt
row_beside nodes p before m (n ∷ ns) b f a =
    (item_beside nodes p before m n b a.0 f, row_beside nodes p before m ns b f a.1)

-- the row of another operation than p, which has not o
pub row_moved : (nodes : Nodes) (next : List ℕ) (o p : OpName) (s was before : ℕ) (n : OpName) (ns : List OpName)
    → After next was (item s) → IsBefore nodes p before → Placed nodes p → Placed nodes o → place o nodes ≡ s
    → eqb n.0 p.0 ≡ false → Placed nodes n → AllPlaced nodes ns → AllUnder nodes n ns → NoneOf o ns
    → Path next (head (place n nodes)) (map (item_of nodes) ns) (head (place n nodes))
    → Path (moved_links was before s next) (head (place n nodes)) (map (item_of nodes) ns) (head (place n nodes))
row_moved nodes next o p s was before n ns a b pp po e f pn an un nn q =
    let h = head (place n nodes) in
    let xs = map (item_of nodes) ns in
    let lack : Lacks (item s) xs = rw e at (lacks nodes o ns po an nn) in
    let ne : h ≡ item s → ⊥ = λ z. omega arith in
    path_beside (unlinked was (item s) next) before (item s) h xs h
    (path_other next was (item s) h xs h a q ne lack ne) (head_beside nodes p before n b pp pn f) ne
    (row_beside nodes p before n ns b f un) lack

-- ---- put where it belongs

pub put_of : (nodes : Nodes) (next : List ℕ) (root : ℕ) (u : Tree) (o p : OpName) (s r i was before : ℕ) (x : Node)
    → Moving nodes next root u o p s r i was before x → Placed (emptied nodes s) p
    → Put (emptied nodes s) (moved_nodes nodes s p r x) (unlinked was (item s) next) (moved_links was before s next) p s
    before
put_of nodes next root u o p s r i was before x y pl =
    let w = here nodes next root u o s x y.held y.at y.name in
    let held : holds o (node_at nodes s) ≡ true = rw w.place at w.placed in
    let new = Some (rehomed nodes p r x) in
    let st = λ (n : OpName) (q : Placed (emptied nodes s) n). stays nodes next root u o s x n y.held y.at y.name q in
    record {
      size = length-set (slice_set next was (slice_index next (item s))) (item s) (item s)
          ∙ length-set next was (slice_index next (item s)) ∙ y.held.size
          ∙ ap (λ k. 2 * k) (sym (length-set nodes s None));
      within = omega (arith, length-set nodes s None, w.within);
      fresh = λ n q e. (st n q).away (sym (st n q).same ∙ e);
      places = λ n q.
          let z = st n q in
          let g : holds n new ≡ false = other_name n o new (rw y.name (eq-eqb o.0 o.0 refl)) z.other in
          out_kept nodes o s n new held z.other g ∙ sym z.same;
      kept = λ n q.
          let z = st n q in
          ap (node_at (moved_nodes nodes s p r x)) z.same ∙ get_or-set_other nodes s (place n nodes) new None z.away
          ∙ sym (get_or-set_other nodes s (place n nodes) None None z.away)
          ∙ ap (node_at (emptied nodes s)) (sym z.same);
      links = refl;
      no_head = λ m q f e. head_beside (emptied nodes s) p before m y.spot pl q f e;
      no_item = λ m n q k f e. item_beside (emptied nodes s) p before m n y.spot k f e;
    }
