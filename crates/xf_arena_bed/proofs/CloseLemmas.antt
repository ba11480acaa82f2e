-- What an arena is once its fields are known to hold a tree.
use Rattle.std.proofs.Common.{◌≡◌, ℕ, zero, suc, ◌-◌, ◌<◌, ◌≤◌, ◌^◌, List, [], ◌∷◌, length}
use Rattle.std.proofs.Common.{slice_set, sym, ◌∙◌, ap, arith, refl, true}
use Rattle.std.proofs.Common.{false, eqb, inl, inr}
use Rattle.std.specs.Prelude.{map, Option, Some, None, vec_capacity}
use Rattle.std.proofs.lemmas.Bool.{eq-eqb, cases_eq}
use Rattle.std.proofs.lemmas.List.{map-set, length-set, get_or-set_same, get_or-set_other}
use Rattle.xf_ir.specs.declared.name.OpName.{OpName}
use Rattle.xf_ir.specs.Tree.{Ops, no_ops, op, Tree, cons}
use Rattle.xf_ir.specs.Count.{tree_count}
use Rattle.xf_rings.specs.Ring.{unlinked, After}
use Rattle.xf_arena_bed.specs.declared.node.Node.{Node}
use Rattle.xf_arena_bed.specs.declared.bed.Bed.TheInside.{Inside}
use Rattle.xf_arena_bed.specs.Value.{Layout, seat_at}
use Rattle.xf_arena_bed.specs.Seat.{seat_of}
use Rattle.xf_arena_bed.specs.Sits.{Nodes, node_at, holds, item, Holds, FreeOk}
use Rattle.xf_arena_tree.specs.Without.{tree_without, OpsLeaf}
use Rattle.xf_arena_bed.specs.Rebuilt.{tree_at, blank}
use Rattle.xf_arena_bed.specs.View.{layout_of, IsBed, IsIndexed, number_in}
use Rattle.xf_index.specs.Index.{name_at}
use Rattle.xf_arena_bed.proofs.RebuiltLemmas.{ops_back}
use Rattle.xf_arena_bed.proofs.LeafLemmas.{holds_cut, count_cut}

abbrev pub first : Ops → Tree
first no_ops = blank
first (op n k ds os ts rs rest) = record { name = n; kind = k; attrs = ds; operands = os; results = ts; regions = rs }

pub first_is : (t u : Tree) → cons t no_ops ≡ cons u no_ops → t ≡ u
first_is t u e = ap first e

pub rebuilt_is : (nodes : Nodes) (next : List ℕ) (root : ℕ) (t : Tree) (fuel : ℕ) → Holds nodes next root t
    → tree_count t ≤ fuel → tree_at nodes next fuel fuel (item root) ≡ t
rebuilt_is nodes next root t fuel h f =
    rw h.top (first_is _ t (ops_back nodes next fuel fuel None (cons t no_ops) h.sits (omega arith) (omega arith)))

pub closed : (a : Inside) (t : Tree) → Holds a.nodes.items a.links a.root t → a.live ≡ tree_count t
    → FreeOk a.nodes.items a.links a.free.items a.live → length a.nodes.items ≤ vec_capacity a.free
    → length a.nodes.items ≤ 2 ^ 31 → IsIndexed a.nodes.items a.index → IsBed a
closed a t h n r v f x =
    let e = rebuilt_is a.nodes.items a.links a.root t a.live h (omega arith) in
    record { holds = rw e h; count = rw e n; free = r; room = v; few = f; indexed = x }

pub indexed_with : (nodes : Nodes) (index : List (Option ℕ)) (s : ℕ) (y : Option Node) (z : Option ℕ)
    → number_in y ≡ z → s < length nodes → IsIndexed nodes index → IsIndexed (slice_set nodes s y) (slice_set index s z)
indexed_with nodes index s y z e l x = record {
  within = omega (arith, length-set nodes s y, length-set index s z, x.within);
  same = λ i. elim (cases_eq i s) [
    | inl q ↦
        let a : node_at (slice_set nodes s y) i ≡ y = rw q (get_or-set_same nodes s y None l) in
        let b : name_at (slice_set index s z) i ≡ z = rw q (get_or-set_same index s z None (omega (arith, x.within))) in
        b ∙ sym (ap number_in a ∙ e)
    | inr q ↦
        let a : node_at (slice_set nodes s y) i ≡ node_at nodes i = get_or-set_other nodes s i y None q in
        let b : name_at (slice_set index s z) i ≡ name_at index i = get_or-set_other index s i z None q in
        b ∙ x.same i ∙ sym (ap number_in a)
  ];
}

pub seat_is : (nodes : Nodes) (s : ℕ) → seat_at (map seat_of nodes) s ≡ seat_of (node_at nodes s)
seat_is [] s = refl
seat_is (x ∷ xs) zero = refl
seat_is (x ∷ xs) (suc s) = seat_is xs s

seat_holds : (o : OpName) (y : Option Node) → seat_of y ≡ Some o → holds o y ≡ true
seat_holds o None e = cc
seat_holds o (Some x) e = let q : x.name ≡ o = cc in rw q (eq-eqb o.0 o.0 refl)

pub seated : (a : Inside) (v : Layout) (s : ℕ) (o : OpName) → layout_of a ≡ v → seat_at v.seats s ≡ Some o
    → holds o (node_at a.nodes.items s) ≡ true
seated a v s o e h = seat_holds o _ (sym (seat_is a.nodes.items s) ∙ ap (λ (m : Layout). seat_at m.seats s) e ∙ h)

pub cut_holds : (a : Inside) (v : Layout) (s : ℕ) (o : OpName) (p : ℕ) → IsBed a → layout_of a ≡ v
    → seat_at v.seats s ≡ Some o → eqb v.root.name.0 o.0 ≡ false → OpsLeaf o (cons v.root no_ops)
    → After a.links p (item s) → Holds (slice_set a.nodes.items s None) (unlinked p (item s) a.links) a.root
    (tree_without o v.root) × (a.live - 1 ≡ tree_count (tree_without o v.root))
cut_holds a v s o p i e h f l w =
    let q = seated a v s o e h in
    let r : (layout_of a).root ≡ v.root = ap (λ (m : Layout). m.root) e in
    let g = rw r at i.holds in
    let n : a.live ≡ tree_count v.root = rw r at i.count in
    let m = count_cut a.nodes.items a.links a.root v.root o s g f l q in
    (holds_cut a.nodes.items a.links a.root v.root o s p g f l q w, omega arith)

pub seats_cut : (a : Inside) (v : Layout) (s : ℕ) → layout_of a ≡ v
    → map seat_of (slice_set a.nodes.items s None) ≡ slice_set v.seats s None
seats_cut a v s e = map-set seat_of a.nodes.items s None ∙ ap (λ (m : Layout). slice_set m.seats s None) e
