use Rattle.xf_arena_bed.proofs.KidRows.{row_of, next_seen}
use Rattle.xf_arena_bed.proofs.SpotLemmas.{stands}
use Rattle.xf_arena_bed.proofs.bed.Bed.next_kid.Goals as goal

pub returns-clause-next : goal.returns-clause-next
returns-clause-next c = λ t us vs r e q.
    let s = stands c.self.inside c.args.self.now c.args.id c.self.invariant c.self.view_is c.requires.live in
    let row = row_of c.self.inside c.args.self.now t.name t c.self.invariant c.self.view_is e in
    next_seen _ _ _ _ us _ vs _ _ _ _ row q s.place c.next.ensures.value c.as_slice.ensures.value c.kid_seen.ensures
