use Rattle.std.proofs.Common.{arith, sym, ◌∙◌}
use Rattle.xf_arena_bed.specs.Live.{number_before}
use Rattle.xf_arena_bed.proofs.CloseLemmas.{closed}
use Rattle.xf_arena_bed.proofs.MoveSpots.{leaving, relinked, not_itself, relinked_root}
use Rattle.xf_arena_bed.proofs.bed.Bed.relink.Goals as goal

pub link-requires-clause-other : goal.link-requires-clause-other
link-requires-clause-other c =
    let l = leaving c.self.inside c.args.self.now c.args.id c.args.parent c.args.sibling c.args.at.region c.args.at.at
    c.unlink-before.result c.self.invariant c.self.view_is c.requires.live c.requires.low c.requires.parent
    c.requires.inside c.requires.sibling c.requires.place c.unlink-before.ensures.before
    in
    λ e. not_itself c.self.inside c.args.self.now c.args.id c.args.parent c.args.at.region c.args.at.at
    c.unlink-before.result (number_before c.args.parent c.args.sibling) l (sym c.number_before.ensures ∙ e)

pub invariant_of-self : goal.invariant_of-self
invariant_of-self c =
    let a = c.self.inside in
    let i = c.self.invariant in
    let l = leaving a c.args.self.now c.args.id c.args.parent c.args.sibling c.args.at.region c.args.at.at
    c.unlink-before.result i c.self.view_is c.requires.live c.requires.low c.requires.parent
    c.requires.inside c.requires.sibling c.requires.place c.unlink-before.ensures.before
    in
    let k = relinked a c.args.self.now c.args.id c.args.parent c.args.at.region c.args.at.at c.unlink-before.result
    (number_before c.args.parent c.args.sibling) c.set_parent.new.nodes.items c.link.new.self i c.self.view_is l
    c.set_parent.ensures (rw (← c.number_before.ensures, ← c.unlink-before.ensures.done) c.link.ensures)
    in
    closed _ _ k.holds k.count k.free (omega (arith, k.same, i.room)) (omega (arith, k.same, i.few)) k.indexed

pub returns-clause-root : goal.returns-clause-root
returns-clause-root c = λ t e.
    let a = c.self.inside in
    let i = c.self.invariant in
    let l = leaving a c.args.self.now c.args.id c.args.parent c.args.sibling c.args.at.region c.args.at.at
    c.unlink-before.result i c.self.view_is c.requires.live c.requires.low c.requires.parent
    c.requires.inside c.requires.sibling c.requires.place c.unlink-before.ensures.before
    in
    let k = relinked a c.args.self.now c.args.id c.args.parent c.args.at.region c.args.at.at c.unlink-before.result
    (number_before c.args.parent c.args.sibling) c.set_parent.new.nodes.items c.link.new.self i c.self.view_is l
    c.set_parent.ensures (rw (← c.number_before.ensures, ← c.unlink-before.ensures.done) c.link.ensures)
    in
    relinked_root _ _ a c.args.self.now c.args.id c.args.parent c.args.at.region c.args.at.at k t e

pub returns-clause-seats : goal.returns-clause-seats
returns-clause-seats c =
    let a = c.self.inside in
    let i = c.self.invariant in
    let l = leaving a c.args.self.now c.args.id c.args.parent c.args.sibling c.args.at.region c.args.at.at
    c.unlink-before.result i c.self.view_is c.requires.live c.requires.low c.requires.parent
    c.requires.inside c.requires.sibling c.requires.place c.unlink-before.ensures.before
    in
    let k = relinked a c.args.self.now c.args.id c.args.parent c.args.at.region c.args.at.at c.unlink-before.result
    (number_before c.args.parent c.args.sibling) c.set_parent.new.nodes.items c.link.new.self i c.self.view_is l
    c.set_parent.ensures (rw (← c.number_before.ensures, ← c.unlink-before.ensures.done) c.link.ensures)
    in
    k.seats
