use Rattle.std.proofs.Common.{arith, length, sym, ◌∙◌, ap, subst, refl, ◌+◌}
use Rattle.std.specs.Prelude.{Some}
use Rattle.xf_ir.specs.Tree.{Tree, cons, no_ops}
use Rattle.xf_arena_tree.specs.Names.{OpsDistinct}
use Rattle.xf_arena_tree.specs.Puts.{tree_put}
use Rattle.xf_arena_bed.specs.Live.{name_of, leaf_of}
use Rattle.xf_ir.specs.Count.{tree_count}
use Rattle.xf_arena_bed.specs.Value.{Layout}
use Rattle.xf_arena_bed.proofs.CloseLemmas.{closed, rebuilt_is, indexed_with}
use Rattle.xf_arena_bed.proofs.FreeLemmas.{taken, inserted}
use Rattle.xf_arena_bed.proofs.SpotLemmas.{stands, spotted, before_within, before_other}
use Rattle.xf_arena_bed.proofs.SeatLemmas.{seats_put, seat_put, seats_long}
use Rattle.xf_arena_bed.proofs.bed.Bed.put_leaf.Goals as goal

pub put-requires-clause-within : goal.put-requires-clause-within
put-requires-clause-within c =
    let k = taken c.self.inside _ _ c.self.invariant c.in-Some.ensures.items in
    omega (arith, k.0, c.self.invariant.indexed.within)

pub put-requires-clause-free : goal.put-requires-clause-free
put-requires-clause-free c =
    let k = taken c.self.inside _ _ c.self.invariant c.in-Some.ensures.items in
    c.self.invariant.indexed.same c.in-Some.slot ∙ rw k.1.0 refl

pub set_node-requires : goal.set_node-requires
set_node-requires c = let k = taken c.self.inside _ _ c.self.invariant c.in-Some.ensures.items in omega (arith, k.0)

pub overflow_mul-slot : goal.overflow_mul-slot
overflow_mul-slot c =
    let k = taken c.self.inside _ _ c.self.invariant c.in-Some.ensures.items in
    omega (arith, k.0, c.self.invariant.few)

pub overflow_add-slot : goal.overflow_add-slot
overflow_add-slot c =
    let k = taken c.self.inside _ _ c.self.invariant c.in-Some.ensures.items in
    omega (arith, k.0, c.self.invariant.few)

pub link-requires-clause-before_in : goal.link-requires-clause-before_in
link-requires-clause-before_in c =
    let a = c.self.inside in
    let s = stands a c.args.self.now c.args.parent c.self.invariant c.self.view_is c.requires.live in
    let q = spotted a c.args.self.now c.args.parent c.args.sibling c.args.at.region c.args.at.at c.self.invariant
    c.self.view_is c.requires.live c.requires.sibling c.requires.place
    in
    let z = before_within a.nodes.items a.links a.root c.args.self.now.root _ _ s.holds s.placed q.spot in
    rw (← c.number_before.ensures) at z

pub link-requires-clause-at_in : goal.link-requires-clause-at_in
link-requires-clause-at_in c =
    let k = taken c.self.inside _ _ c.self.invariant c.in-Some.ensures.items in
    omega (arith, k.0, c.self.invariant.holds.size)

pub link-requires-clause-loose : goal.link-requires-clause-loose
link-requires-clause-loose c = (taken c.self.inside _ _ c.self.invariant c.in-Some.ensures.items).1.1.0

pub link-requires-clause-other : goal.link-requires-clause-other
link-requires-clause-other c =
    let a = c.self.inside in
    let k = taken a _ _ c.self.invariant c.in-Some.ensures.items in
    let q = spotted a c.args.self.now c.args.parent c.args.sibling c.args.at.region c.args.at.at c.self.invariant
    c.self.view_is c.requires.live c.requires.sibling c.requires.place
    in
    λ e. before_other a.nodes.items _ _ c.in-Some.slot k.1.0 q.spot (sym c.number_before.ensures ∙ e)

pub invariant_of-self : goal.invariant_of-self
invariant_of-self c =
    let a = c.self.inside in
    let i = c.self.invariant in
    let t = taken a _ _ i c.in-Some.ensures.items in
    let k = inserted a c.args.self.now c.args.node c.args.parent c.args.sibling c.args.at.region c.args.at.at _ _ i
    c.self.view_is c.requires.live c.requires.sibling c.requires.place c.requires.is_new c.requires.home
    c.in-Some.ensures.items
    in
    let h = rw (← c.number_before.ensures, ← c.link.ensures, ← c.set_node.ensures) at k.holds in
    let f = rw (← c.number_before.ensures, ← c.link.ensures, ← c.set_node.ensures) at k.free in
    let x = rw (← c.set_node.ensures, ← c.put.ensures) at (indexed_with a.nodes.items a.index c.in-Some.slot
    (Some c.args.node) (Some c.args.node.name.0) refl t.0 i.indexed)
    in
    let len = ap length c.set_node.ensures ∙ k.same in
    closed _ (tree_put (name_of c.args.parent) c.args.at.region c.args.at.at (leaf_of c.args.node) c.args.self.now.root)
    h k.count f (omega (arith, len, i.room, c.in-Some.ensures.capacity)) (omega (arith, len, i.few)) x

pub returns-clause-root : goal.returns-clause-root
returns-clause-root c =
    let k = inserted c.self.inside c.args.self.now c.args.node c.args.parent c.args.sibling c.args.at.region
    c.args.at.at
    _ _ c.self.invariant c.self.view_is c.requires.live c.requires.sibling c.requires.place c.requires.is_new
    c.requires.home c.in-Some.ensures.items
    in
    let h = rw (← c.number_before.ensures, ← c.link.ensures, ← c.set_node.ensures) at k.holds in
    rebuilt_is _ _ _ _ _ h (omega (arith, k.count))

pub returns-clause-live : goal.returns-clause-live
returns-clause-live c =
    let t = taken c.self.inside _ _ c.self.invariant c.in-Some.ensures.items in
    rw c.set_node.ensures (seat_put c.self.inside.nodes.items c.in-Some.slot c.args.node t.0)

pub returns-clause-seats : goal.returns-clause-seats
returns-clause-seats c = λ id l.
    let t = taken c.self.inside _ _ c.self.invariant c.in-Some.ensures.items in
    rw c.set_node.ensures (seats_put c.self.inside c.args.self.now c.in-Some.slot c.args.node id c.self.view_is t.1.0 l)

pub returns-clause-slots : goal.returns-clause-slots
returns-clause-slots c =
    rw c.set_node.ensures (seats_long c.self.inside c.args.self.now c.in-Some.slot (Some c.args.node) c.self.view_is)

pub returns-clause-names : goal.returns-clause-names
returns-clause-names c =
    let k = inserted c.self.inside c.args.self.now c.args.node c.args.parent c.args.sibling c.args.at.region
    c.args.at.at
    _ _ c.self.invariant c.self.view_is c.requires.live c.requires.sibling c.requires.place c.requires.is_new
    c.requires.home c.in-Some.ensures.items
    in
    let h = rw (← c.number_before.ensures, ← c.link.ensures, ← c.set_node.ensures) at k.holds in
    let q = rebuilt_is _ _ _ _ (c.self.inside.live + 1) h (omega (arith, k.count)) in
    subst (λ (t : Tree). OpsDistinct (cons t no_ops)) (sym q) h.distinct

pub returns-clause-count : goal.returns-clause-count
returns-clause-count c =
    let k = inserted c.self.inside c.args.self.now c.args.node c.args.parent c.args.sibling c.args.at.region
    c.args.at.at
    _ _ c.self.invariant c.self.view_is c.requires.live c.requires.sibling c.requires.place c.requires.is_new
    c.requires.home c.in-Some.ensures.items
    in
    let h = rw (← c.number_before.ensures, ← c.link.ensures, ← c.set_node.ensures) at k.holds in
    let q = rebuilt_is _ _ _ _ (c.self.inside.live + 1) h (omega (arith, k.count)) in
    let was = c.self.invariant.count in
    let v = ap (λ (m : Layout). tree_count m.root) c.self.view_is in
    ap tree_count q ∙ omega (arith, k.count, was, v)
