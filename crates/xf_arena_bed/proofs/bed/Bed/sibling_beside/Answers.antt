use Rattle.std.proofs.Common.{rules}
use Rattle.xf_arena_bed.specs.Live.{name_of}
use Rattle.xf_arena_bed.proofs.MoveWalk.{beside_place, beside_end, beside_past, beside_here}
use Rattle.xf_arena_bed.proofs.bed.Bed.sibling_beside.Goals as goal

pub returns-in-None-clause-place : goal.returns-in-None-clause-place
returns-in-None-clause-place c =
    beside_place (name_of c.args.parent) c.args.at.region c.args.at.at c.loop-kid.left (name_of c.args.other)
    c.args.self.now.root _ _ _ c.loop-kid.before c.kids-kid-items.ensures.names c.kids-kid-items.ensures.found
    c.kids-kid-items.ensures.all c.requires.range (search rules) c.loop-kid.invariant.told
    (beside_end _ _ _ _ c.in-None.ensures.steps.0)

pub returns-then-kid-at-clause-place : goal.returns-then-kid-at-clause-place
returns-then-kid-at-clause-place c =
    beside_place (name_of c.args.parent) c.args.at.region c.args.at.at c.loop-kid.left (name_of c.args.other)
    c.args.self.now.root _ _ _ c.loop-kid.before c.kids-kid-items.ensures.names c.kids-kid-items.ensures.found
    c.kids-kid-items.ensures.all c.requires.range (search rules) c.loop-kid.invariant.told
    (beside_past _ _ _ _ _ _ c.in-Some.ensures.steps c.if-kid-other.false c.if-kid-at.true)

pub returns-then-left-eq0-clause-place : goal.returns-then-left-eq0-clause-place
returns-then-left-eq0-clause-place c =
    beside_place (name_of c.args.parent) c.args.at.region c.args.at.at c.loop-kid.left (name_of c.args.other)
    c.args.self.now.root _ _ _ c.loop-kid.before c.kids-kid-items.ensures.names c.kids-kid-items.ensures.found
    c.kids-kid-items.ensures.all c.requires.range (search rules) c.loop-kid.invariant.told
    (beside_here _ _ _ _ _ _ c.in-Some.ensures.steps c.if-kid-other.false c.if-kid-at-2.true c.if-left-eq0.true)
