-- An operation that is moved: its new place, the free slots, and what the fields are then.
use Rattle.std.proofs.Common.{◌≡◌, ℕ, ◌<◌, List, [], ◌∷◌, length}
use Rattle.std.proofs.Common.{slice_index, slice_set, sym, ◌∙◌, ap, subst, arith, refl, true, false}
use Rattle.std.proofs.Common.{eqb, inl, inr}
use Rattle.std.specs.Prelude.{map, Option, Some, None, IfSome}
use Rattle.std.proofs.lemmas.List.{get_or-set_same, get_or-set_other, length-set, length-map, map-set}
use Rattle.std.proofs.lemmas.Bool.{cases_eq}
use Rattle.xf_ir.specs.declared.name.OpName.{OpName}
use Rattle.xf_ir.specs.Count.{tree_count}
use Rattle.xf_ir.specs.Tree.{no_ops, Tree, cons}
use Rattle.xf_ir.specs.Walk.{ops_find, tree_find}
use Rattle.xf_rings.specs.Ring.{linked, unlinked, After}
use Rattle.xf_rings.proofs.PathLemmas.{linked_other, unlinked_other}
use Rattle.xf_arena_tree.specs.Names.{ops_has}
use Rattle.xf_arena_tree.specs.Without.{tree_without, OpsWhere}
use Rattle.xf_arena_tree.specs.Puts.{tree_put, InRange, StandsAt, kids_before, kids_after, last_name}
use Rattle.xf_arena_tree.proofs.WhereLemmas.{where_map, where_found}
use Rattle.xf_arena_bed.specs.declared.bed.Bed.TheInside.{Inside}
use Rattle.xf_arena_bed.specs.declared.node.Node.{Node}
use Rattle.xf_arena_bed.specs.declared.node.OpId.{OpId}
use Rattle.xf_arena_bed.specs.Value.{Layout}
use Rattle.xf_arena_bed.specs.Seat.{seat_of}
use Rattle.xf_arena_bed.specs.View.{layout_of, IsBed, IsIndexed, number_in}
use Rattle.xf_arena_bed.specs.Live.{name_of, names_of, IsLive, AreLive, number_before}
use Rattle.xf_arena_bed.specs.Sits.{Nodes, node_at, holds, place, head, item, home_of, OpsSit, Holds, AllFree, FreeOk}
use Rattle.xf_arena_bed.proofs.PlaceLemmas.{Placed, AllPlaced, kids_placed}
use Rattle.xf_arena_bed.proofs.LeafLemmas.{holder, ops_placed}
use Rattle.xf_arena_bed.specs.Rebuilt.{tree_at}
use Rattle.xf_arena_bed.proofs.CloseLemmas.{seated, seat_is, rebuilt_is}
use Rattle.xf_arena_bed.proofs.FindLemmas.{ops_found}
use Rattle.xf_arena_bed.proofs.FieldLemmas.{set_back, same_op}
use Rattle.xf_arena_bed.proofs.PutLemmas.{SplitAt, IsBefore, AllUnder, kids_under, kids_split, placed_left}
use Rattle.xf_arena_bed.proofs.KidRows.{find_is}
use Rattle.xf_arena_bed.proofs.SpotLemmas.{stands, Spotted, last_under, under_left, before_head, before_item}
use Rattle.xf_arena_bed.proofs.SpotLemmas.{before_other}
use Rattle.xf_arena_bed.proofs.MoveLemmas.{emptied, rehomed, moved_nodes, moved_links, Moving, here, left_sits}
use Rattle.xf_arena_bed.proofs.MoveLemmas.{stays, before_back}
use Rattle.xf_arena_bed.proofs.MovedHolds.{moved_holds}

-- ---- the new place

last_placed : (nodes : Nodes) (ns : List OpName) (k : OpName) → last_name ns ≡ Some k → AllPlaced nodes ns
    → Placed nodes k
last_placed nodes [] k e a = cc
last_placed nodes (n ∷ []) k e a = (let q : n ≡ k = cc in rw q at a.0)
last_placed nodes (n ∷ (m ∷ ns)) k e a = last_placed nodes (m ∷ ns) k e a.1

spotted_out : (nodes : Nodes) (next : List ℕ) (u : Tree) (p : OpId) (sibling : Option OpId) (r i : ℕ)
    → OpsSit nodes next None (cons u no_ops) → place (name_of p) nodes ≡ p.slot
    → ops_has (name_of p) (cons u no_ops) ≡ true
    → ((k : OpId) → sibling ≡ Some k → Placed nodes (name_of k) → place (name_of k) nodes ≡ k.slot)
    → OpsWhere (name_of p) (StandsAt r i (names_of sibling)) (cons u no_ops)
    → Spotted nodes u (name_of p) r i (number_before p sibling)
spotted_out nodes next u p None r i st e h g w = record {
  split = where_map (name_of p) (StandsAt r i None) (SplitAt nodes (name_of p) r i (head p.slot)) (cons u no_ops)
      (λ rs x. before_head nodes p r i rs e x) w;
  range = where_map (name_of p) (StandsAt r i None) (InRange r i) (cons u no_ops) (λ rs x. x.in_range) w;
  spot = inl (ap head (sym e));
}
spotted_out nodes next u p (Some k) r i st e h g w =
    let f = ops_found nodes next None (cons u no_ops) (name_of p) st h in
    let q = where_found (name_of p) (StandsAt r i (Some (name_of k))) (cons u no_ops) f.0 w f.1.0 in
    let split = kids_split r i f.0.regions q.in_range in
    let under : AllUnder nodes f.0.name (kids_before r i f.0.regions) =
    under_left nodes f.0.name (kids_before r i f.0.regions) (kids_after r i f.0.regions)
    (rw split at (kids_under nodes next f.0.name 0 f.0.regions f.1.1.inner))
    in
    let below = last_under nodes f.0.name (kids_before r i f.0.regions) (name_of k) q.before under in
    let placed = last_placed nodes (kids_before r i f.0.regions) (name_of k) q.before
    (placed_left nodes (kids_before r i f.0.regions) (kids_after r i f.0.regions)
    (rw split at (kids_placed nodes next f.0.name 0 f.0.regions f.1.1.inner)))
    in
    let at = g k refl placed in
    record {
      split = where_map (name_of p) (StandsAt r i (Some (name_of k))) (SplitAt nodes (name_of p) r i (item k.slot))
          (cons u no_ops) (λ rs x. before_item nodes (name_of p) k r i rs at x) w;
      range = where_map (name_of p) (StandsAt r i (Some (name_of k))) (InRange r i) (cons u no_ops)
          (λ rs x. x.in_range) w;
      spot = inr (record {
        name = name_of k;
        is = ap item (sym at);
        placed = placed;
        below = rw f.1.1.name at below;
      });
    }

-- ---- the operation that is moved, in the fields

pub record Leaving (a : Inside) (v : Layout) (id pid : OpId) (r i was before : ℕ) : Type 0 where
  pub node : Node
  pub at : node_at a.nodes.items id.slot ≡ Some node
  pub moving : Moving a.nodes.items a.links a.root v.root (name_of id) (name_of pid) id.slot r i was before node
  pub home : home_of a.nodes.items (name_of pid) r ≡ Some (pid, r)
  pub placed : Placed (emptied a.nodes.items id.slot) (name_of pid)

pub leaving : (a : Inside) (v : Layout) (id pid : OpId) (sibling : Option OpId) (r i was : ℕ) → IsBed a
    → layout_of a ≡ v → IsLive v id → eqb v.root.name.0 id.serial ≡ false → IsLive v pid
    → ops_has (name_of pid) (cons (tree_without (name_of id) v.root) no_ops) ≡ true → AreLive v sibling
    → OpsWhere (name_of pid) (StandsAt r i (names_of sibling)) (cons (tree_without (name_of id) v.root) no_ops)
    → After a.links was (item id.slot) → Leaving a v id pid r i was (number_before pid sibling)
leaving a v id pid sibling r i was b e live low plive inside slive w after =
    let nodes = a.nodes.items in
    let o = name_of id in
    let p = name_of pid in
    let s = id.slot in
    let st = stands a v id b e live in
    let sp = stands a v pid b e plive in
    let z = holder o (node_at nodes s) (seated a v s o e live) in
    let x = z.0 in
    let nm : x.name ≡ o = same_op x.name o z.1.1 in
    let left = left_sits nodes a.links a.root v.root o s was x st.holds low z.1.0 nm after in
    let pl = ops_placed (emptied nodes s) (unlinked was (item s) a.links) None (cons (tree_without o v.root) no_ops) p
    left inside
    in
    let sy = stays nodes a.links a.root v.root o s x p st.holds z.1.0 nm pl in
    let spot = spotted_out (emptied nodes s) (unlinked was (item s) a.links) (tree_without o v.root) pid sibling r i left
    (sy.same ∙ sp.place) inside
    (λ k q h. (stays nodes a.links a.root v.root o s x (name_of k) st.holds z.1.0 nm h).same
    ∙ (stands a v k b e (subst (AreLive v) q slive)).place) w
    in
    record {
      node = x;
      at = z.1.0;
      moving = record {
        held = st.holds;
        low = low;
        at = z.1.0;
        name = nm;
        after = after;
        parent = inside;
        split = spot.split;
        range = spot.range;
        spot = spot.spot;
      };
      home = ap (λ j. let h : OpId = record { slot = j; serial = pid.serial } in Some (h, r)) sp.place;
      placed = pl;
    }

-- ---- the free slots

free_moved : (nodes : Nodes) (next gs : List ℕ) (s was before : ℕ) (x : Node) (y : Option Node)
    → node_at nodes s ≡ Some x → After next was (item s)
    → ((f : ℕ) → node_at nodes f ≡ None → head f ≡ before → ⊥)
    → ((f : ℕ) → node_at nodes f ≡ None → item f ≡ before → ⊥) → AllFree nodes next gs
    → AllFree (slice_set nodes s y) (moved_links was before s next) gs
free_moved nodes next [] s was before x y e w nh ni a = tt
free_moved nodes next (f ∷ gs) s was before x y e w nh ni a =
    let away : f ≡ s → ⊥ = λ q. let z : None ≡ Some x = sym a.0.1.0 ∙ ap (node_at nodes) q ∙ e in cc in
    let next1 = unlinked was (item s) next in
    let it : item f ≡ was → ⊥ = λ q.
    let z : item f ≡ item s = sym a.0.1.1.0 ∙ ap (slice_index next) q ∙ w.is in away (omega arith)
    in
    let hd : head f ≡ was → ⊥ = λ q.
    let z : head f ≡ item s = sym a.0.1.1.1 ∙ ap (slice_index next) q ∙ w.is in omega arith
    in
    let apart : item f ≡ item s → ⊥ = λ q. away (omega arith) in
    let odd : head f ≡ item s → ⊥ = λ q. omega arith in (
      (
        omega (arith, a.0.0, length-set nodes s y),
        (
          get_or-set_other nodes s f y None away ∙ a.0.1.0,
          (
            linked_other next1 before (item s) (item f) (ni f a.0.1.0) apart
                ∙ unlinked_other next was (item s) (item f) it apart ∙ a.0.1.1.0,
            linked_other next1 before (item s) (head f) (nh f a.0.1.0) odd
                ∙ unlinked_other next was (item s) (head f) hd odd ∙ a.0.1.1.1,
          ),
        ),
      ),
      free_moved nodes next gs s was before x y e w nh ni a.1,
    )

free_head : (nodes : Nodes) (p : OpName) (before : ℕ) → IsBefore nodes p before → Placed nodes p → (f : ℕ)
    → node_at nodes f ≡ None → head f ≡ before → ⊥
free_head nodes p before b pl f e q = elim b [
  | inl c ↦ (
      let g : f ≡ place p nodes = omega arith in
      let z : false ≡ true = sym (ap (holds p) (ap (node_at nodes) (sym g) ∙ e)) ∙ pl in cc)
  | inr k ↦ (let c = k.is in omega arith)
]

free_item : (nodes : Nodes) (p : OpName) (before : ℕ) → IsBefore nodes p before → (f : ℕ) → node_at nodes f ≡ None
    → item f ≡ before → ⊥
free_item nodes p before b f e q = elim b [
  | inl c ↦ omega arith
  | inr k ↦ (
      let g : f ≡ place k.name nodes = (let c = k.is in omega arith) in
      let z : false ≡ true = sym (ap (holds k.name) (ap (node_at nodes) (sym g) ∙ e)) ∙ k.placed in cc)
]

-- ---- what the fields are then

same_number : (nodes : Nodes) (s : ℕ) (x y : Node) (i : ℕ) → node_at nodes s ≡ Some x → s < length nodes
    → y.name ≡ x.name → number_in (node_at (slice_set nodes s (Some y)) i) ≡ number_in (node_at nodes i)
same_number nodes s x y i e l n = elim (cases_eq i s) [
  | inl q ↦ ap number_in (ap (node_at (slice_set nodes s (Some y))) q ∙ get_or-set_same nodes s (Some y) None l)
      ∙ ap (λ (m : OpName). Some m.0) n ∙ sym (ap number_in (ap (node_at nodes) q ∙ e))
  | inr q ↦ ap number_in (get_or-set_other nodes s i (Some y) None q)
]

same_seats : (nodes : Nodes) (s : ℕ) (x y : Node) → node_at nodes s ≡ Some x → s < length nodes → y.name ≡ x.name
    → map seat_of (slice_set nodes s (Some y)) ≡ map seat_of nodes
same_seats nodes s x y e l n =
    map-set seat_of nodes s (Some y)
    ∙ set_back (map seat_of nodes) s (Some y.name) (seat_is nodes s ∙ ap seat_of e ∙ ap Some (sym n))
    (let k = length-map nodes seat_of in omega arith)

pub record Relinked (nodes2 : Nodes) (next2 : List ℕ) (a : Inside) (v : Layout) (id pid : OpId) (r i : ℕ)
    : Type 0 where
  pub tree : Tree
  pub found : ops_find (name_of id) (cons v.root no_ops) ≡ Some tree
  pub holds : Holds nodes2 next2 a.root (tree_put (name_of pid) r i tree (tree_without (name_of id) v.root))
  pub count : a.live ≡ tree_count (tree_put (name_of pid) r i tree (tree_without (name_of id) v.root))
  pub free : FreeOk nodes2 next2 a.free.items a.live
  pub indexed : IsIndexed nodes2 a.index
  pub seats : map seat_of nodes2 ≡ v.seats
  pub same : length nodes2 ≡ length a.nodes.items

relinked_as : (a : Inside) (v : Layout) (id pid : OpId) (r i was before : ℕ) → IsBed a → layout_of a ≡ v
    → (c : Leaving a v id pid r i was before)
    → Relinked (moved_nodes a.nodes.items id.slot (name_of pid) r c.node) (moved_links was before id.slot a.links) a v id
    pid r i
relinked_as a v id pid r i was before b e c =
    let nodes = a.nodes.items in
    let o = name_of id in
    let p = name_of pid in
    let s = id.slot in
    let x = c.node in
    let m = c.moving in
    let w = here nodes a.links a.root v.root o s x m.held c.at m.name in
    let h = moved_holds nodes a.links a.root v.root o p s r i was before x m in
    let root : (layout_of a).root ≡ v.root = ap (λ (n : Layout). n.root) e in
    let count : a.live ≡ tree_count v.root = rw root at b.count in
    let spot = before_back nodes a.links a.root v.root o p s r i was before x m c.placed in
    let sp = stays nodes a.links a.root v.root o s x p m.held c.at m.name c.placed in
    let len = length-set nodes s (Some (rehomed nodes p r x)) in
    record {
      tree = h.tree;
      found = h.found;
      holds = h.holds;
      count = count ∙ sym h.tree_is.count;
      free = record {
        each = free_moved nodes a.links a.free.items s was before x (Some (rehomed nodes p r x)) c.at m.after
            (free_head nodes p before spot sp.placed) (free_item nodes p before spot) b.free.each;
        once = b.free.once;
        total = omega (arith, b.free.total, len);
      };
      indexed = record {
        within = omega (arith, b.indexed.within, len);
        same = λ j. b.indexed.same j ∙ sym (same_number nodes s x (rehomed nodes p r x) j c.at w.within refl);
      };
      seats = same_seats nodes s x (rehomed nodes p r x) c.at w.within refl ∙ ap (λ (n : Layout). n.seats) e;
      same = len;
    }

pub relinked : (a : Inside) (v : Layout) (id pid : OpId) (r i was before : ℕ) (nodes2 : Nodes) (next2 : List ℕ)
    → IsBed a → layout_of a ≡ v → Leaving a v id pid r i was before
    → IfSome (node_at a.nodes.items id.slot)
    (λ n. nodes2 ≡ slice_set a.nodes.items id.slot (Some (record n { parent = Some (pid, r) })))
    → next2 ≡ linked before (item id.slot) (unlinked was (item id.slot) a.links) → Relinked nodes2 next2 a v id pid r i
relinked a v id pid r i was before nodes2 next2 b e c q z =
    let set : nodes2 ≡ slice_set a.nodes.items id.slot (Some (record c.node { parent = Some (pid, r) })) =
    rw c.at at q
    in
    let same : nodes2 ≡ moved_nodes a.nodes.items id.slot (name_of pid) r c.node = rw c.home set in
    rw (same, z) (relinked_as a v id pid r i was before b e c)

-- it is not linked behind itself
pub not_itself : (a : Inside) (v : Layout) (id pid : OpId) (r i was before : ℕ) → Leaving a v id pid r i was before
    → before ≡ item id.slot → ⊥
not_itself a v id pid r i was before c =
    let nodes = a.nodes.items in
    let m = c.moving in
    let w = here nodes a.links a.root v.root (name_of id) id.slot c.node m.held c.at m.name in
    before_other (emptied nodes id.slot) (name_of pid) before id.slot
    (get_or-set_same nodes id.slot None None w.within) m.spot

pub relinked_root : (nodes2 : Nodes) (next2 : List ℕ) (a : Inside) (v : Layout) (id pid : OpId) (r i : ℕ)
    → Relinked nodes2 next2 a v id pid r i → (t : Tree) → tree_find (name_of id) v.root ≡ Some t
    → tree_at nodes2 next2 a.live a.live (item a.root)
    ≡ tree_put (name_of pid) r i t (tree_without (name_of id) v.root)
relinked_root nodes2 next2 a v id pid r i k t e =
    let same : k.tree ≡ t = some_tree k.tree t (sym k.found ∙ find_is (name_of id) v.root ∙ e) in
    rebuilt_is nodes2 next2 a.root (tree_put (name_of pid) r i k.tree (tree_without (name_of id) v.root)) a.live k.holds
    (omega (arith, k.count))
    ∙ ap (λ y. tree_put (name_of pid) r i y (tree_without (name_of id) v.root)) same
  where
    some_tree : (a b : Tree) → Some a ≡ Some b → a ≡ b
    some_tree a b e = cc
