use Rattle.std.proofs.Common.{rules}
use Rattle.xf_arena_bed.specs.Live.{name_of}
use Rattle.xf_arena_bed.proofs.WalkLemmas.{sibling_place, stop_end, stop_past, stop_here}
use Rattle.xf_arena_bed.proofs.bed.Bed.sibling.Goals as goal

pub returns-in-None-clause-place : goal.returns-in-None-clause-place
returns-in-None-clause-place c =
    sibling_place (name_of c.args.parent) c.args.at.region c.args.at.at c.loop-kid.left c.args.self.now.root _ _ _
    c.loop-kid.before c.kids-kid-items.ensures.names c.kids-kid-items.ensures.found c.kids-kid-items.ensures.all
    c.requires.range (search rules) c.loop-kid.invariant.told
    (stop_end _ _ _ c.in-None.ensures.steps.0)

pub returns-then-kid-at-clause-place : goal.returns-then-kid-at-clause-place
returns-then-kid-at-clause-place c =
    sibling_place (name_of c.args.parent) c.args.at.region c.args.at.at c.loop-kid.left c.args.self.now.root _ _ _
    c.loop-kid.before c.kids-kid-items.ensures.names c.kids-kid-items.ensures.found c.kids-kid-items.ensures.all
    c.requires.range (search rules) c.loop-kid.invariant.told
    (stop_past _ _ _ _ _ c.in-Some.ensures.steps c.if-kid-at.true)

pub returns-then-left-eq0-clause-place : goal.returns-then-left-eq0-clause-place
returns-then-left-eq0-clause-place c =
    sibling_place (name_of c.args.parent) c.args.at.region c.args.at.at c.loop-kid.left c.args.self.now.root _ _ _
    c.loop-kid.before c.kids-kid-items.ensures.names c.kids-kid-items.ensures.found c.kids-kid-items.ensures.all
    c.requires.range (search rules) c.loop-kid.invariant.told
    (stop_here _ _ _ _ _ c.in-Some.ensures.steps c.if-kid-at-2.true c.if-left-eq0.true)
