-- One slot more, the first slot, and the root.
use Rattle.std.proofs.Common.{◌≡◌, ℕ, zero, suc, ◌+◌, ◌*◌, ◌<◌, ◌≤◌, List, [], ◌∷◌, ◌++◌, length, slice_index}
use Rattle.std.proofs.Common.{sym, ◌∙◌, ap, arith, refl, true, false, eqb, inl, inr, length-append}
use Rattle.std.specs.Prelude.{map, Option, Some, None, slice_set}
use Rattle.std.proofs.lemmas.List.{get_or_append_left, map-append, get_or-set_same, get_or-set_other, length-set}
use Rattle.std.proofs.lemmas.List.{length-map}
use Rattle.std.proofs.Math.Seq.{get_or-append_seam}
use Rattle.std.proofs.lemmas.Bool.{eq-eqb, cases_Bool, cases_eq}
use Rattle.xf_type.specs.declared.payload_type.PayloadType.{PayloadType}
use Rattle.xf_ir.specs.declared.name.OpName.{OpName}
use Rattle.xf_ir.specs.RuleBlocks.{block_args}
use Rattle.xf_ir.specs.Tree.{no_ops, Tree, cons}
use Rattle.xf_ir.specs.Count.{tree_count, regions_count}
use Rattle.xf_ir.specs.Walk.{tree_find}
use Rattle.xf_rings.specs.Ring.{Path}
use Rattle.xf_rings.specs.Groups.{AllOnce, Lacks}
use Rattle.xf_index.specs.Index.{name_at, IsGrown}
use Rattle.xf_arena_tree.specs.Names.{kids, ops_has, regions_has, RegionsDistinct}
use Rattle.xf_arena_tree.specs.Puts.{bare}
use Rattle.xf_arena_tree.proofs.SplitLemmas.{ops_unfound}
use Rattle.xf_arena_bed.specs.declared.bed.Bed.TheInside.{Inside}
use Rattle.xf_arena_bed.specs.declared.node.Node.{Node}
use Rattle.xf_arena_bed.specs.Value.{Layout, seat_at}
use Rattle.xf_arena_bed.specs.Seat.{seat_of}
use Rattle.xf_arena_bed.specs.Live.{leaf_of}
use Rattle.xf_arena_bed.specs.Sits.{Nodes, node_at, holds, place, head, item, item_of, RegionsSit, Holds}
use Rattle.xf_arena_bed.specs.Sits.{AllFree, FreeOk}
use Rattle.xf_arena_bed.specs.View.{layout_of, IsBed, IsIndexed, number_in}
use Rattle.xf_arena_bed.proofs.PlaceLemmas.{Placed, AllPlaced, place_within}
use Rattle.xf_arena_bed.proofs.LeafLemmas.{ops_placed, holder}
use Rattle.xf_arena_bed.proofs.CloseLemmas.{seat_is}
use Rattle.xf_arena_bed.proofs.FrameLemmas.{Frame, ops_frame}
use Rattle.xf_arena_bed.proofs.HoldsPutLemmas.{self_has}
use Rattle.xf_arena_bed.proofs.KidRows.{find_is}

-- ---- one slot more

place_more : (nodes : Nodes) (n : OpName) → Placed nodes n → place n (nodes ++ None ∷ []) ≡ place n nodes
place_more [] n h = cc
place_more (x ∷ xs) n h = elim (cases_Bool (holds n x)) [
  | inl e ↦ rw e refl
  | inr e ↦ rw e (ap suc (place_more xs n (rw e at h)))
]

node_more : (nodes : Nodes) (s : ℕ) → node_at (nodes ++ None ∷ []) s ≡ node_at nodes s
node_more [] zero = refl
node_more [] (suc s) = refl
node_more (x ∷ xs) zero = refl
node_more (x ∷ xs) (suc s) = node_more xs s

next_more : (next : List ℕ) (k i : ℕ) → i < length next
    → slice_index (next ++ length next ∷ [] ++ k ∷ []) i ≡ slice_index next i
next_more next k i h =
    get_or_append_left (next ++ length next ∷ []) (k ∷ []) 0 i (omega (arith, length-append next (length next ∷ [])))
    ∙ get_or_append_left next (length next ∷ []) 0 i h

next_first : (next : List ℕ) (k : ℕ) → slice_index (next ++ length next ∷ [] ++ k ∷ []) (length next) ≡ length next
next_first next k =
    get_or_append_left (next ++ length next ∷ []) (k ∷ []) 0 (length next)
    (omega (arith, length-append next (length next ∷ []))) ∙ get_or-append_seam next (length next) [] 0

next_second : (next : List ℕ) (k i : ℕ) → i ≡ length next + 1 → slice_index (next ++ length next ∷ [] ++ k ∷ []) i ≡ k
next_second next k i e =
    let l : i ≡ length (next ++ length next ∷ []) = omega (arith, length-append next (length next ∷ [])) in
    rw l (get_or-append_seam (next ++ length next ∷ []) k [] 0)

abbrev Below : ℕ → List ℕ → Type 0
Below n [] = Unit {0}
Below n (x ∷ xs) = (x < n) × Below n xs

path_more : (next : List ℕ) (k a : ℕ) (xs : List ℕ) (b : ℕ) → a < length next → Below (length next) xs
    → Path next a xs b
    → Path (next ++ length next ∷ [] ++ k ∷ []) a xs b
path_more next k a [] b h w q = next_more next k a h ∙ q
path_more next k a (x ∷ xs) b h w q = (next_more next k a h ∙ q.0, path_more next k x xs b w.0 w.1 q.1)

items_in : (nodes : Nodes) (size : ℕ) (ns : List OpName) → size ≡ 2 * length nodes → AllPlaced nodes ns
    → Below size (map (item_of nodes) ns)
items_in nodes size [] e p = tt
items_in nodes size (n ∷ ns) e p = (omega (arith, place_within nodes n p.0), items_in nodes size ns e p.1)

frame_more : (nodes : Nodes) (next : List ℕ) (k : ℕ) → length next ≡ 2 * length nodes
    → Frame nodes (nodes ++ None ∷ []) next (next ++ length next ∷ [] ++ k ∷ []) (λ n. true)
frame_more nodes next k e = record {
  places = λ n h p. place_more nodes n p;
  kept = λ n h p. node_more nodes (place n nodes);
  rows = λ n ns h p a u w q.
      path_more next k (head (place n nodes)) (map (item_of nodes) ns) (head (place n nodes))
      (omega (arith, place_within nodes n p)) (items_in nodes (length next) ns e a) q;
}

free_more : (nodes : Nodes) (next : List ℕ) (k : ℕ) (fs : List ℕ) → length next ≡ 2 * length nodes
    → AllFree nodes next fs
    → AllFree (nodes ++ None ∷ []) (next ++ length next ∷ [] ++ k ∷ []) fs
free_more nodes next k [] e a = tt
free_more nodes next k (f ∷ fs) e a =
    let w = a.0.0 in (
      (
        omega (arith, length-append nodes (None ∷ [])),
        (
          node_more nodes f ∙ a.0.1.0,
          (next_more next k (item f) (omega arith) ∙ a.0.1.1.0, next_more next k (head f) (omega arith) ∙ a.0.1.1.1),
        ),
      ),
      free_more nodes next k fs e a.1,
    )

free_last : (nodes : Nodes) (next : List ℕ) (fs : List ℕ) (f : ℕ) → AllFree nodes next fs
    → (f < length nodes) × ((node_at nodes f ≡ None)
    × ((slice_index next (item f) ≡ item f) × (slice_index next (head f) ≡ head f)))
    → AllFree nodes next (fs ++ f ∷ [])
free_last nodes next [] f a h = (h, tt)
free_last nodes next (g ∷ fs) f a h = (a.0, free_last nodes next fs f a.1 h)

once_last : (nodes : Nodes) (next : List ℕ) (fs : List ℕ) (f : ℕ) → length nodes ≤ f → AllFree nodes next fs
    → AllOnce fs
    → AllOnce (fs ++ f ∷ [])
once_last nodes next [] f h a o = (tt, tt)
once_last nodes next (g ∷ fs) f h a o =
    (lacks_last nodes next g fs f (let w = a.0.0 in λ e. omega arith) o.0, once_last nodes next fs f h a.1 o.1)
  where
    lacks_last : (nodes : Nodes) (next : List ℕ) (g : ℕ) (fs : List ℕ) (f : ℕ) → (f ≡ g → ⊥) → Lacks g fs
        → Lacks g (fs ++ f ∷ [])
    lacks_last nodes next g [] f n l = (n, tt)
    lacks_last nodes next g (x ∷ fs) f n l = (l.0, lacks_last nodes next g fs f n l.1)

pub record Grown (nodes : Nodes) (next : List ℕ) (root : ℕ) (t : Tree) (free : List ℕ) (live : ℕ) : Type 0 where
  pub holds : Holds nodes next root t
  pub free_are : FreeOk nodes next free live

pub grown : (nodes : Nodes) (next : List ℕ) (root : ℕ) (t : Tree) (free : List ℕ) (live : ℕ) → Holds nodes next root t
    → FreeOk nodes next free live
    → Grown (nodes ++ None ∷ []) (next ++ length next ∷ [] ++ (length next + 1) ∷ []) root t
    (free ++ length nodes ∷ []) live
grown nodes next root t free live h f =
    let k = length next + 1 in
    let nodes2 = nodes ++ None ∷ [] in
    let next2 = next ++ length next ∷ [] ++ k ∷ [] in
    let ln = length-append nodes (None ∷ []) in
    let l1 = length-append next (length next ∷ []) in
    let l2 = length-append (next ++ length next ∷ []) (k ∷ []) in
    let sz = h.size in
    let s = length nodes in
    let no_node : node_at nodes2 s ≡ None = get_or-append_seam nodes None [] None in
    let i1 : item s ≡ length next + 1 = omega arith in
    let h1 : head s ≡ length next = omega arith in
    let loose : slice_index next2 (item s) ≡ item s = next_second next k (item s) i1 ∙ sym i1 in
    let alone : slice_index next2 (head s) ≡ head s = rw h1 (next_first next k) in
    record {
      holds = record {
        sits = ops_frame nodes nodes2 next next2 (λ n. true) (frame_more nodes next k sz) None (cons t no_ops)
            (λ x q. refl)
            h.sits;
        known = λ i x q. h.known i x (sym (node_more nodes i) ∙ q);
        apart = record {
          same = λ i j x y p q e. h.apart.same i j x y (sym (node_more nodes i) ∙ p) (sym (node_more nodes j) ∙ q) e;
        };
        distinct = h.distinct;
        size = omega (arith, ln, l1, l2);
        top = h.top ∙ sym (place_more nodes t.name
            (ops_placed nodes next None (cons t no_ops) t.name h.sits (self_has t)));
      };
      free_are = record {
        each = free_last nodes2 next2 free s (free_more nodes next k free sz f.each)
            (omega (arith, ln), (no_node, (loose, alone)));
        once = once_last nodes next free s (omega arith) f.each f.once;
        total = omega (arith, f.total, ln, length-append free (s ∷ []));
      };
    }

pub grown_done : (nodes n1 n2 : Nodes) (next l2 : List ℕ) (root : ℕ) (t : Tree) (free f1 f2 : List ℕ) (live slots : ℕ)
    → Holds nodes next root t → FreeOk nodes next free live → n1 ≡ nodes → n2 ≡ n1 ++ None ∷ []
    → l2 ≡ next ++ length next ∷ [] ++ (length next + 1) ∷ [] → f1 ≡ free → f2 ≡ f1 ++ slots ∷ [] → slots ≡ length nodes
    → Grown n2 l2 root t f2 live
grown_done nodes n1 n2 next l2 root t free f1 f2 live slots h f en1 en2 el ef1 ef2 es =
    rw (en2, en1, el, ef2, ef1, es) (grown nodes next root t free live h f)

pub indexed_more : (nodes : Nodes) (index more : List (Option ℕ)) → IsIndexed nodes index → length index ≤ length more
    → ((s : ℕ) → name_at more s ≡ name_at index s) → length nodes < length more → IsIndexed (nodes ++ None ∷ []) more
indexed_more nodes index more x l e w = record {
  within = omega (arith, length-append nodes (None ∷ []));
  same = λ s. e s ∙ x.same s ∙ ap number_in (sym (node_more nodes s));
}

pub indexed_done : (nodes n1 n2 : Nodes) (index more : List (Option ℕ)) (slots : ℕ) → IsIndexed nodes index
    → length index ≤ length more → ((s : ℕ) → name_at more s ≡ name_at index s) → slots < length more
    → slots ≡ length nodes → n1 ≡ nodes → n2 ≡ n1 ++ None ∷ [] → IsIndexed n2 more
indexed_done nodes n1 n2 index more slots x l e w es e1 e2 =
    rw (e2, e1) (indexed_more nodes index more x l e (omega arith))

pub indexed_longer : (nodes : Nodes) (index more : List (Option ℕ)) → IsIndexed nodes index → length index ≤ length more
    → ((s : ℕ) → name_at more s ≡ name_at index s) → IsIndexed nodes more
indexed_longer nodes index more x l e = record { within = omega (arith, x.within); same = λ s. e s ∙ x.same s }

pub seats_more : (a : Inside) (v : Layout) → layout_of a ≡ v
    → map seat_of (a.nodes.items ++ None ∷ []) ≡ v.seats ++ None ∷ []
seats_more a v e = map-append seat_of a.nodes.items (None ∷ []) ∙ ap (λ (m : Layout). m.seats ++ None ∷ []) e

-- ---- the root

pub record RootNode (nodes : Nodes) (root : ℕ) (t : Tree) : Type 0 where
  pub node : Node
  pub at : node_at nodes root ≡ Some node
  pub name : node.name ≡ t.name

pub root_node : (nodes : Nodes) (next : List ℕ) (root : ℕ) (t : Tree) → Holds nodes next root t → RootNode nodes root t
root_node nodes next root t h =
    let x : Node = record {
      name = t.name;
      kind = t.kind;
      attrs = t.attrs;
      operands = t.operands;
      results = t.results;
      regions = block_args t.regions;
      parent = None;
    } in
    record { node = x; at = rw h.top h.sits.0.node; name = refl }

pub root_within : (nodes : Nodes) (next : List ℕ) (root : ℕ) (t : Tree) → Holds nodes next root t → root < length nodes
root_within nodes next root t h =
    rw h.top (place_within nodes t.name (ops_placed nodes next None (cons t no_ops) t.name h.sits (self_has t)))

-- ---- names

number_seat : (y : Option Node) (o : OpName) → number_in y ≡ Some o.0 → seat_of y ≡ Some o
number_seat None o e = cc
number_seat (Some x) o e =
    let q : x.name.0 ≡ o.0 = cc in
    let mk : ℕ → OpName = λ i. record { 0 = i } in
    let w : x.name ≡ o = ap mk q in
    ap Some w

pub indexed_live : (a : Inside) (v : Layout) (s : ℕ) (o : OpName) → IsBed a → layout_of a ≡ v
    → name_at a.index s ≡ Some o.0 → seat_at v.seats s ≡ Some o
indexed_live a v s o i e q =
    ap (λ (m : Layout). seat_at m.seats s) (sym e) ∙ seat_is a.nodes.items s
    ∙ number_seat (node_at a.nodes.items s) o (sym (i.indexed.same s) ∙ q)

pub indexed_none : (a : Inside) (v : Layout) (o : OpName) → IsBed a → layout_of a ≡ v
    → ((s : ℕ) → name_at a.index s ≡ Some o.0 → ⊥) → tree_find o v.root ≡ None
indexed_none a v o i e lacks =
    let root : (layout_of a).root ≡ v.root = ap (λ (m : Layout). m.root) e in
    let h = rw root at i.holds in
    elim (cases_Bool (ops_has o (cons v.root no_ops))) [
      | inl t ↦ (
          let p = ops_placed a.nodes.items a.links None (cons v.root no_ops) o h.sits t in
          let z = holder o (node_at a.nodes.items (place o a.nodes.items)) p in
          let s = place o a.nodes.items in
          absurd (lacks s (i.indexed.same s ∙ ap number_in z.1.0 ∙ ap Some z.1.1)))
      | inr f ↦ sym (find_is o v.root) ∙ ops_unfound o (cons v.root no_ops) f
    ]

pub root_live : (a : Inside) (v : Layout) (y : Option Node) (x : Node) → IsBed a → layout_of a ≡ v
    → y ≡ node_at a.nodes.items a.root → y ≡ Some x
    → (seat_at v.seats a.root ≡ Some x.name) × (x.name ≡ v.root.name)
root_live a v y x i e q w =
    let root : (layout_of a).root ≡ v.root = ap (λ (m : Layout). m.root) e in
    let h : Holds a.nodes.items a.links a.root v.root = rw root at i.holds in
    let r = root_node a.nodes.items a.links a.root v.root h in
    let z : Some r.node ≡ Some x = sym r.at ∙ sym q ∙ w in
    let same : r.node ≡ x = some_node r.node x z in (
      ap (λ (m : Layout). seat_at m.seats a.root) (sym e) ∙ seat_is a.nodes.items a.root ∙ ap seat_of (sym q ∙ w),
      ap (λ (n : Node). n.name) (sym same) ∙ r.name,
    )
  where
    some_node : (a b : Node) → Some a ≡ Some b → a ≡ b
    some_node a b e = cc

pub root_there : (a : Inside) (v : Layout) (y : Option Node) → IsBed a → layout_of a ≡ v
    → y ≡ node_at a.nodes.items a.root → y ≡ None → ⊥
root_there a v y i e q w =
    let root : (layout_of a).root ≡ v.root = ap (λ (m : Layout). m.root) e in
    let h : Holds a.nodes.items a.links a.root v.root = rw root at i.holds in
    let r = root_node a.nodes.items a.links a.root v.root h in
    let z : None ≡ Some r.node = sym w ∙ q ∙ r.at in
    cc

-- ---- the first slot

bare_kids : (args : List (List PayloadType)) → kids (bare args) ≡ []
bare_kids [] = refl
bare_kids (a ∷ more) = bare_kids more

bare_args : (args : List (List PayloadType)) → block_args (bare args) ≡ args
bare_args [] = refl
bare_args (a ∷ more) = ap (λ l. a ∷ l) (bare_args more)

pub bare_count : (args : List (List PayloadType)) → regions_count (bare args) ≡ 0
bare_count [] = refl
bare_count (a ∷ more) = omega (arith, bare_count more)

bare_sit : (nodes : Nodes) (next : List ℕ) (n : OpName) (r : ℕ) (args : List (List PayloadType))
    → RegionsSit nodes next n r (bare args)
bare_sit nodes next n r [] = tt
bare_sit nodes next n r (a ∷ more) = (tt, bare_sit nodes next n (suc r) more)

bare_distinct : (args : List (List PayloadType)) → RegionsDistinct (bare args)
bare_distinct [] = tt
bare_distinct (a ∷ more) = ((λ x h. let z : false ≡ true = h in cc), (tt, bare_distinct more))

bare_lacks : (n : OpName) (args : List (List PayloadType)) → regions_has n (bare args) ≡ false
bare_lacks n [] = refl
bare_lacks n (a ∷ more) = bare_lacks n more

some_same : (a b : Node) → Some a ≡ Some b → a ≡ b
some_same a b e = cc

abbrev no_nodes : Nodes
no_nodes = []

beyond : (s : ℕ) → node_at no_nodes s ≡ None
beyond zero = refl
beyond (suc s) = refl

only_first : (y x : Node) (s : ℕ) → node_at (Some x ∷ []) s ≡ Some y → (s ≡ 0) × (x ≡ y)
only_first y x zero e = (refl, some_same x y e)
only_first y x (suc s) e = (let z : None ≡ Some y = sym (beyond s) ∙ e in cc)

pub started : (x : Node) → x.parent ≡ None → Holds (Some x ∷ []) (0 ∷ 1 ∷ []) 0 (leaf_of x)
started x e =
    let nodes : Nodes = Some x ∷ [] in
    let same : eqb x.name.0 x.name.0 ≡ true = eq-eqb x.name.0 x.name.0 refl in
    let p : place x.name nodes ≡ 0 = rw same refl in
    let has : ops_has x.name (cons (leaf_of x) no_ops) ≡ true = rw same refl in
    record {
      sits = (
        record { node = rw (p, bare_args x.regions, ← e) refl; row = rw (p, bare_kids x.regions) refl },
        (bare_sit nodes (0 ∷ 1 ∷ []) x.name 0 x.regions, tt),
      );
      known = λ s y q. rw (← (only_first y x s q).1) has;
      apart = record { same = λ s t a b q r z. (only_first a x s q).0 ∙ sym (only_first b x t r).0 };
      distinct = (bare_lacks x.name x.regions, (refl, ((λ y h. refl), (bare_distinct x.regions, tt))));
      size = refl;
      top = sym p;
    }

pub started_indexed : (x : Node) (more index : List (Option ℕ)) → IsGrown [] more
    → index ≡ slice_set more 0 (Some x.name.0) → IsIndexed (Some x ∷ []) index
started_indexed x more index g e =
    let l = g.longer in
    rw e record {
      within = omega (arith, length-set more 0 (Some x.name.0));
      same = λ s. elim (cases_eq s 0) [
        | inl q ↦ rw q (get_or-set_same more 0 (Some x.name.0) None l)
        | inr q ↦
            get_or-set_other more 0 s (Some x.name.0) None q ∙ g.same s ∙ sym (ap number_in (node_none x s q)) ∙ refl
      ];
    }
  where
    node_none : (x : Node) (s : ℕ) → (s ≡ 0 → ⊥) → node_at (Some x ∷ []) s ≡ None
    node_none x zero n = absurd (n refl)
    node_none x (suc s) n = beyond s

pub started_done : (x : Node) (n m m0 : Nodes) (l l0 f f0 : List ℕ) → x.parent ≡ None → n ≡ m ++ Some x ∷ [] → m ≡ m0
    → m0 ≡ [] → l ≡ l0 ++ length l0 ∷ [] ++ (length l0 + 1) ∷ [] → l0 ≡ [] → f ≡ f0 → f0 ≡ []
    → Grown n l 0 (leaf_of x) f 1
started_done x n m m0 l l0 f f0 e a b c d g h k = rw (a, b, c, d, g, h, k) record {
  holds = started x e;
  free_are = record { each = tt; once = tt; total = refl };
}

pub started_index_done : (x : Node) (n m m0 : Nodes) (more i0 index : List (Option ℕ)) → n ≡ m ++ Some x ∷ [] → m ≡ m0
    → m0 ≡ [] → i0 ≡ [] → IsGrown i0 more → index ≡ slice_set more 0 (Some x.name.0) → IsIndexed n index
started_index_done x n m m0 more i0 index a b c d g e = rw (a, b, c) (started_indexed x more index (rw d at g) e)

pub started_view : (n m m0 : Nodes) (x : Node) → n ≡ m ++ Some x ∷ [] → m ≡ m0 → m0 ≡ []
    → map seat_of n ≡ Some x.name ∷ []
started_view n m m0 x a b c = rw (a, b, c) refl

pub layout_same : (t u : Tree) (xs ys : List (Option OpName)) → t ≡ u → xs ≡ ys
    → (let a : Layout = record { root = t; seats = xs } in a) ≡ (let b : Layout = record { root = u; seats = ys } in b)
layout_same t u xs ys p q = rw (p, q) refl

pub free_count : (a : Inside) (v : Layout) (n : ℕ) → IsBed a → layout_of a ≡ v → n ≡ length a.free.items
    → tree_count v.root + n ≡ length v.seats
free_count a v n i e q =
    let c = ap (λ (m : Layout). tree_count m.root) e in
    let s = ap (λ (m : Layout). length m.seats) e in
    let z = length-map a.nodes.items seat_of in
    omega (arith, i.count, i.free.total, c, s, z)
