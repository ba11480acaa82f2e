-- The free slots, when one is taken or given back.
use Rattle.xf_type.specs.declared.payload_type.PayloadType.{PayloadType}
use Rattle.xf_ir.specs.RuleBlocks.{block_args}
use Rattle.std.proofs.Common.{◌≡◌, ℕ, suc, ◌+◌, ◌-◌, ◌<◌, ◌||◌, List, [], ◌∷◌, ◌++◌, length}
use Rattle.std.proofs.Common.{slice_index, slice_set, sym, ◌∙◌, ap, arith, refl, true, false}
use Rattle.std.proofs.Common.{eqb, inl, inr, length-append}
use Rattle.std.specs.Prelude.{map, Option, Some, None}
use Rattle.std.proofs.lemmas.List.{get_or-set_same, get_or-set_other, length-set}
use Rattle.std.proofs.lemmas.Bool.{cases_Bool, or_cases}
use Rattle.xf_ir.specs.declared.name.OpName.{OpName}
use Rattle.xf_ir.specs.Tree.{Ops, no_ops, op, Regions, no_regions, region, Tree, cons}
use Rattle.xf_ir.specs.Count.{tree_count, regions_count}
use Rattle.xf_rings.specs.Ring.{Path, linked, unlinked, After}
use Rattle.xf_rings.specs.Groups.{AllOnce, Lacks}
use Rattle.xf_rings.proofs.PathLemmas.{linked_other, unlinked_other}
use Rattle.xf_arena_bed.specs.declared.node.Node.{Node}
use Rattle.xf_arena_bed.specs.Home.{Home}
use Rattle.xf_arena_bed.specs.declared.node.OpId.{OpId}
use Rattle.xf_arena_bed.specs.declared.bed.Bed.TheInside.{Inside}
use Rattle.xf_arena_tree.specs.Names.{kids, ops_has, regions_has}
use Rattle.xf_arena_bed.specs.Live.{name_of, names_of, IsLive, AreLive, leaf_of, number_before}
use Rattle.xf_arena_bed.proofs.SpotLemmas.{stands, spotted}
use Rattle.xf_arena_bed.specs.Value.{Layout, seat_at}
use Rattle.xf_arena_bed.specs.View.{layout_of, IsBed}
use Rattle.xf_arena_bed.specs.Sits.{Nodes, node_at, holds, place, head, item, Holds, OpsSit, RegionsSit, home_of}
use Rattle.xf_arena_bed.specs.Sits.{AllFree, FreeOk}
use Rattle.xf_arena_tree.specs.Without.{OpsWhere, OpsLeaf, RegionsLeaf}
use Rattle.xf_arena_tree.specs.Puts.{tree_put, bare, StandsAt}
use Rattle.xf_arena_bed.proofs.PlaceLemmas.{place_within}
use Rattle.xf_arena_bed.proofs.LeafLemmas.{holder, place_is, same_name}
use Rattle.xf_arena_bed.proofs.CloseLemmas.{seated}
use Rattle.xf_arena_bed.proofs.HoldsPutLemmas.{Ready, node_of, holds_put, first}
use Rattle.xf_arena_tree.proofs.PutTreeLemmas.{put_count}

abbrev IsFree : Nodes → List ℕ → ℕ → Type 0
IsFree nodes next f = (f < length nodes)
    × ((node_at nodes f ≡ None) × ((slice_index next (item f) ≡ item f) × (slice_index next (head f) ≡ head f)))

free_last : (nodes : Nodes) (next gs : List ℕ) (f : ℕ) → AllFree nodes next (gs ++ f ∷ [])
    → AllFree nodes next gs × IsFree nodes next f
free_last nodes next [] f a = (tt, a.0)
free_last nodes next (g ∷ gs) f a = let r = free_last nodes next gs f a.1 in ((a.0, r.0), r.1)

lacks_front : (g : ℕ) (gs : List ℕ) (f : ℕ) → Lacks g (gs ++ f ∷ []) → Lacks g gs
lacks_front g [] f l = tt
lacks_front g (x ∷ gs) f l = (l.0, lacks_front g gs f l.1)

lacks_last : (g : ℕ) (gs : List ℕ) (f : ℕ) → Lacks g (gs ++ f ∷ []) → g ≡ f → ⊥
lacks_last g [] f l e = l.0 (sym e)
lacks_last g (x ∷ gs) f l e = lacks_last g gs f l.1 e

once_last : (gs : List ℕ) (f : ℕ) → AllOnce (gs ++ f ∷ []) → AllOnce gs × Lacks f gs
once_last [] f a = (tt, tt)
once_last (g ∷ gs) f a = let r = once_last gs f a.1 in ((lacks_front g gs f a.0, r.0), (lacks_last g gs f a.0, r.1))

free_put : (nodes : Nodes) (next gs : List ℕ) (s before : ℕ) (y : Option Node) → AllFree nodes next gs → Lacks s gs
    → ((f : ℕ) → node_at nodes f ≡ None → head f ≡ before → ⊥)
    → ((f : ℕ) → node_at nodes f ≡ None → item f ≡ before → ⊥)
    → AllFree (slice_set nodes s y) (linked before (item s) next) gs
free_put nodes next [] s before y a l nh ni = tt
free_put nodes next (f ∷ gs) s before y a l nh ni = (
  (
    omega (arith, a.0.0, length-set nodes s y),
    (
      get_or-set_other nodes s f y None l.0 ∙ a.0.1.0,
      (
        linked_other next before (item s) (item f) (ni f a.0.1.0) (λ e. l.0 (omega arith)) ∙ a.0.1.1.0,
        linked_other next before (item s) (head f) (nh f a.0.1.0) (λ e. omega arith) ∙ a.0.1.1.1,
      ),
    ),
  ),
  free_put nodes next gs s before y a.1 l.1 nh ni,
)

bare_kids : (args : List (List PayloadType)) → kids (bare args) ≡ []
bare_kids [] = refl
bare_kids (a ∷ more) = bare_kids more

bare_args : (args : List (List PayloadType)) → block_args (bare args) ≡ args
bare_args [] = refl
bare_args (a ∷ more) = ap (λ l. a ∷ l) (bare_args more)

bare_count : (args : List (List PayloadType)) → regions_count (bare args) ≡ 0
bare_count [] = refl
bare_count (a ∷ more) = omega (arith, bare_count more)

pub record Inserted (nodes2 : Nodes) (next2 : List ℕ) (root : ℕ) (u2 : Tree) (gs : List ℕ)
    (live2 size : ℕ) : Type 0 where
  pub same : length nodes2 ≡ size
  pub holds : Holds nodes2 next2 root u2
  pub count : live2 ≡ tree_count u2
  pub free : FreeOk nodes2 next2 gs live2

pub taken : (a : Inside) (gs : List ℕ) (f : ℕ) → IsBed a → a.free.items ≡ gs ++ f ∷ [] → IsFree a.nodes.items a.links f
taken a gs f i e = (free_last a.nodes.items a.links gs f (rw e at i.free.each)).1

pub inserted : (a : Inside) (v : Layout) (x : Node) (pid : OpId) (sibling : Option OpId) (r k : ℕ) (gs : List ℕ)
    (f : ℕ) → IsBed a → layout_of a ≡ v → IsLive v pid → AreLive v sibling
    → OpsWhere (name_of pid) (StandsAt r k (names_of sibling)) (cons v.root no_ops)
    → ops_has x.name (cons v.root no_ops) ≡ false → x.parent ≡ Some (pid, r) → a.free.items ≡ gs ++ f ∷ []
    → Inserted (slice_set a.nodes.items f (Some x)) (linked (number_before pid sibling) (item f) a.links) a.root
    (tree_put (name_of pid) r k (leaf_of x) v.root) gs (a.live + 1) (length a.nodes.items)
inserted a v x pid sibling r k gs f i e live sib w is_new home fe =
    let t = leaf_of x in
    let p = name_of pid in
    let nodes = a.nodes.items in
    let s = stands a v pid i e live in
    let spot = spotted a v pid sibling r k i e live sib w in
    let before = number_before pid sibling in
    let root : (layout_of a).root ≡ v.root = ap (λ (m : Layout). m.root) e in
    let h = s.holds in
    let count : a.live ≡ tree_count v.root = rw root at i.count in
    let all = rw fe at i.free.each in
    let once = once_last gs f (rw fe at i.free.once) in
    let last = free_last nodes a.links gs f all in
    let y : Ready nodes a.links a.root v.root f t p r k before = record {
      holds = h;
      within = last.1.0;
      is_free = last.1.1.0;
      loose = last.1.1.1.0;
      alone = last.1.1.1.1;
      is_new = is_new;
      leaf = bare_kids x.regions;
      parent = s.has;
      split = spot.split;
      range = spot.range;
      spot = spot.spot;
    } in
    let here : home_of nodes p r ≡ x.parent = rw s.place (sym home) in
    let node_is : node_of nodes p r t ≡ x = rw (bare_args x.regions, here) refl in
    let put = rw node_is at (holds_put nodes a.links a.root v.root f t p r k before y) in
    let one : tree_count t ≡ 1 = (let q = bare_count x.regions in omega arith) in
    let n = rw (first p r k t v.root) at (put_count p r k t (cons v.root no_ops) h.distinct spot.range s.has) in
    let len = ap length fe ∙ length-append gs (f ∷ []) in
    record {
      same = length-set nodes f (Some x);
      holds = put;
      count = omega arith;
      free = record {
        each = free_put nodes a.links gs f before (Some x) last.0 once.1 (λ g q z. elim spot.spot [
          | inl b ↦ (
              let g_is : g ≡ place p nodes = omega arith in
              let c : false ≡ true = sym (ap (holds p) (ap (node_at nodes) (sym g_is) ∙ q)) ∙ s.placed in cc)
          | inr b ↦ (let c = b.is in omega arith)
        ]) (λ g q z. elim spot.spot [
          | inl b ↦ omega arith
          | inr b ↦ (
              let g_is : g ≡ place b.name nodes = (let c = b.is in omega arith) in
              let c : false ≡ true = sym (ap (holds b.name) (ap (node_at nodes) (sym g_is) ∙ q)) ∙ b.placed in cc)
        ]);
        once = once.0;
        total = omega (arith, i.free.total, length-set nodes f (Some x));
      };
    }

-- a leaf's first link leads back
mutual
  ops_alone : (nodes : Nodes) (next : List ℕ) (home : Option Home) (ops : Ops) (o : OpName)
      → OpsSit nodes next home ops → OpsLeaf o ops → ops_has o ops ≡ true
      → slice_index next (head (place o nodes)) ≡ head (place o nodes)
  ops_alone nodes next home no_ops o s l h = cc
  ops_alone nodes next home (op n k ds os ts rs rest) o s l h =
      elim (cases_Bool (eqb n.0 o.0)) [
        | inl e ↦
            let q : n ≡ o = same_name n o e in
            let row : Path next (head (place n nodes)) (map (λ m. item (place m nodes)) []) (head (place n nodes)) =
            rw (l.0 e) at s.0.row in
            rw (← q) row
        | inr e ↦
            let h2 : (regions_has o rs || ops_has o rest) ≡ true = rw e at h in
            elim (or_cases (regions_has o rs) (ops_has o rest) h2) [
              | inl b ↦ regions_alone nodes next n 0 rs o s.1.0 l.1.0 b
              | inr b ↦ ops_alone nodes next home rest o s.1.1 l.1.1 b
            ]
      ]

  regions_alone : (nodes : Nodes) (next : List ℕ) (n : OpName) (r : ℕ) (rs : Regions) (o : OpName)
      → RegionsSit nodes next n r rs → RegionsLeaf o rs → regions_has o rs ≡ true
      → slice_index next (head (place o nodes)) ≡ head (place o nodes)
  regions_alone nodes next n r no_regions o s l h = cc
  regions_alone nodes next n r (region args ops rest) o s l h =
      elim (or_cases (ops_has o ops) (regions_has o rest) h) [
        | inl b ↦ ops_alone nodes next (home_of nodes n r) ops o s.0 l.0 b
        | inr b ↦ regions_alone nodes next n (suc r) rest o s.1 l.1 b
      ]

free_cut : (nodes : Nodes) (next fs : List ℕ) (s before : ℕ) → After next before (item s) → AllFree nodes next fs
    → (node_at nodes s ≡ None → ⊥) → AllFree (slice_set nodes s None) (unlinked before (item s) next) fs
free_cut nodes next [] s before w a n = tt
free_cut nodes next (f ∷ fs) s before w a n =
    let ne : f ≡ s → ⊥ = λ e. n (ap (node_at nodes) (sym e) ∙ a.0.1.0) in (
      (
        omega (arith, a.0.0, length-set nodes s None),
        (
          get_or-set_other nodes s f None None ne ∙ a.0.1.0,
          (
            unlinked_other next before (item s) (item f)
                (λ e. ne (let q : item f ≡ item s = sym a.0.1.1.0 ∙ ap (slice_index next) e ∙ w.is in omega arith))
                (λ e. ne (omega arith)) ∙ a.0.1.1.0,
            unlinked_other next before (item s) (head f)
                (λ e. let q : head f ≡ item s = sym a.0.1.1.1 ∙ ap (slice_index next) e ∙ w.is in omega arith)
                (λ e. omega arith) ∙ a.0.1.1.1,
          ),
        ),
      ),
      free_cut nodes next fs s before w a.1 n,
    )

free_more : (nodes : Nodes) (next fs : List ℕ) (s : ℕ) → AllFree nodes next fs → IsFree nodes next s
    → AllFree nodes next (fs ++ s ∷ [])
free_more nodes next [] s a f = (f, tt)
free_more nodes next (g ∷ fs) s a f = (a.0, free_more nodes next fs s a.1 f)

lacks_more : (g : ℕ) (fs : List ℕ) (s : ℕ) → Lacks g fs → (s ≡ g → ⊥) → Lacks g (fs ++ s ∷ [])
lacks_more g [] s l n = (n, tt)
lacks_more g (f ∷ fs) s l n = (l.0, lacks_more g fs s l.1 n)

once_more : (nodes : Nodes) (next fs : List ℕ) (s : ℕ) → AllFree nodes next fs → (node_at nodes s ≡ None → ⊥)
    → AllOnce fs → AllOnce (fs ++ s ∷ [])
once_more nodes next [] s a n o = (tt, tt)
once_more nodes next (g ∷ fs) s a n o =
    (lacks_more g fs s o.0 (λ e. n (ap (node_at nodes) e ∙ a.0.1.0)), once_more nodes next fs s a.1 n o.1)

pub given_back : (a : Inside) (v : Layout) (s : ℕ) (o : OpName) (p : ℕ) → IsBed a → layout_of a ≡ v
    → seat_at v.seats s ≡ Some o → OpsLeaf o (cons v.root no_ops) → After a.links p (item s)
    → FreeOk (slice_set a.nodes.items s None) (unlinked p (item s) a.links) (a.free.items ++ s ∷ []) (a.live - 1)
given_back a v s o p i e h l w =
    let nodes = a.nodes.items in
    let root : (layout_of a).root ≡ v.root = ap (λ (m : Layout). m.root) e in
    let g = rw root at i.holds in
    let held = seated a v s o e h in
    let z = holder o (node_at nodes s) held in
    let nm : z.0.name ≡ o = (let mk : ℕ → OpName = λ j. record { 0 = j } in ap mk z.1.1) in
    let has : ops_has o (cons v.root no_ops) ≡ true = rw nm at (g.known s z.0 z.1.0) in
    let pl = place_is nodes a.links a.root v.root o s g held in
    let within : s < length nodes = omega (arith, place_within nodes o pl.0) in
    let alone0 = ops_alone nodes a.links None (cons v.root no_ops) o g.sits l has in
    let alone : slice_index a.links (head s) ≡ head s = rw pl.1 at alone0 in
    let live : node_at nodes s ≡ None → ⊥ = λ q. let c : None ≡ Some z.0 = sym q ∙ z.1.0 in cc in
    let count : a.live ≡ tree_count v.root = rw root at i.count in
    let here : IsFree (slice_set nodes s None) (unlinked p (item s) a.links) s = (
      omega (arith, within, length-set nodes s None),
      (
        get_or-set_same nodes s None None within,
        (
          get_or-set_same (slice_set a.links p (slice_index a.links (item s))) (item s) (item s) 0
              (omega (arith, w.in_e, length-set a.links p (slice_index a.links (item s)))),
          unlinked_other a.links p (item s) (head s)
              (λ q. let r : head s ≡ item s = sym alone ∙ ap (slice_index a.links) q ∙ w.is in omega arith)
              (λ q. omega arith) ∙ alone,
        ),
      ),
    ) in
    record {
      each = free_more _ _ a.free.items s (free_cut nodes a.links a.free.items s p w i.free.each live) here;
      once = once_more nodes a.links a.free.items s i.free.each live i.free.once;
      total = omega (arith, i.free.total, length-append a.free.items (s ∷ []), length-set nodes s None, count);
    }
