use Rattle.std.proofs.Common.{sym}
use Rattle.xf_arena_bed.specs.Live.{name_of}
use Rattle.xf_arena_bed.proofs.WalkLemmas.{after_same, after_other, after_none}
use Rattle.xf_arena_bed.proofs.bed.Bed.after.Goals as goal

pub returns-then-kid-region-clause-next : goal.returns-then-kid-region-clause-next
returns-then-kid-region-clause-next c = λ t us vs e q.
    after_same t.regions us (name_of c.args.id) c.args.region vs q c.next_kid.result c.in-Some.kid c.in-Some.is
    (c.next_kid.ensures.next t us vs c.args.region e q) c.if-kid-region.true

pub returns-else-kid-region-clause-next : goal.returns-else-kid-region-clause-next
returns-else-kid-region-clause-next c = λ t us vs e q.
    sym (after_other t.regions us (name_of c.args.id) c.args.region vs q c.next_kid.result c.in-Some.kid c.in-Some.is
    (c.next_kid.ensures.next t us vs c.args.region e q) c.if-kid-region.false)

pub returns-in-None-clause-next : goal.returns-in-None-clause-next
returns-in-None-clause-next c = λ t us vs e q.
    sym (after_none c.args.region vs c.next_kid.result c.in-None.is (c.next_kid.ensures.next t us vs c.args.region e q))
