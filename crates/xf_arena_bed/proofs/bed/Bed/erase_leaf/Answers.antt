use Rattle.std.proofs.Common.{arith, length, ◌∙◌, ap, refl}
use Rattle.std.proofs.lemmas.List.{length-set}
use Rattle.std.specs.Prelude.{None}
use Rattle.xf_arena_tree.specs.Without.{tree_without}
use Rattle.xf_arena_bed.specs.Live.{name_of}
use Rattle.xf_arena_bed.proofs.CloseLemmas.{closed, cut_holds, seats_cut, rebuilt_is, indexed_with}
use Rattle.xf_arena_bed.proofs.FreeLemmas.{given_back}
use Rattle.xf_arena_bed.proofs.PlaceLemmas.{place_within}
use Rattle.xf_arena_bed.proofs.SpotLemmas.{stands}
use Rattle.xf_arena_bed.proofs.bed.Bed.erase_leaf.Goals as goal

pub invariant_of-self : goal.invariant_of-self
invariant_of-self c =
    let a = c.self.inside in
    let o = name_of c.args.id in
    let k = cut_holds a c.args.self.now c.args.id.slot o c.unlink-before.result c.self.invariant c.self.view_is
    c.requires.live c.requires.low c.requires.leaf c.unlink-before.ensures.before
    in
    let s = stands a c.args.self.now c.args.id c.self.invariant c.self.view_is c.requires.live in
    let within = rw s.place at (place_within a.nodes.items o s.placed) in
    let q = rw (← c.unlink-before.ensures.done, ← c.set_node.ensures) at k.0 in
    let f = given_back a c.args.self.now c.args.id.slot o c.unlink-before.result c.self.invariant c.self.view_is
    c.requires.live c.requires.leaf c.unlink-before.ensures.before
    in
    let f2 = rw (← c.unlink-before.ensures.done, ← c.set_node.ensures, ← c.push_reserved.ensures.items) at f in
    let x = rw (← c.set_node.ensures, ← c.remove.ensures) at
    (indexed_with a.nodes.items a.index c.args.id.slot None None refl within
    c.self.invariant.indexed)
    in
    let len = ap length c.set_node.ensures ∙ length-set a.nodes.items c.args.id.slot None in
    closed _ (tree_without o c.args.self.now.root) q k.1 f2
    (omega (arith, len, c.self.invariant.room, c.push_reserved.ensures.capacity))
    (omega (arith, len, c.self.invariant.few)) x

pub returns-clause-root : goal.returns-clause-root
returns-clause-root c =
    let k = cut_holds c.self.inside c.args.self.now c.args.id.slot (name_of c.args.id) c.unlink-before.result
    c.self.invariant c.self.view_is c.requires.live c.requires.low c.requires.leaf c.unlink-before.ensures.before in
    let q = rw (← c.unlink-before.ensures.done, ← c.set_node.ensures) at k.0 in
    rebuilt_is _ _ _ (tree_without (name_of c.args.id) c.args.self.now.root) _ q (omega (arith, k.1))

pub returns-clause-seats : goal.returns-clause-seats
returns-clause-seats c =
    rw c.set_node.ensures (seats_cut c.self.inside c.args.self.now c.args.id.slot c.self.view_is)
