use Rattle.xf_arena_bed.specs.Live.{name_of}
use Rattle.xf_arena_bed.proofs.KidRows.{row_of, first_seen}
use Rattle.xf_arena_bed.proofs.SpotLemmas.{stands}
use Rattle.xf_arena_bed.proofs.bed.Bed.first_kid.Goals as goal

pub returns-clause-first : goal.returns-clause-first
returns-clause-first c = λ t e.
    let s = stands c.self.inside c.args.self.now c.args.id c.self.invariant c.self.view_is c.requires.live in
    let r = row_of c.self.inside c.args.self.now (name_of c.args.id) t c.self.invariant c.self.view_is e in
    first_seen _ _ _ _ _ _ _ _ r s.place c.next.ensures.value c.as_slice.ensures.value c.kid_seen.ensures
