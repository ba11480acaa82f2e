use Rattle.xf_arena_bed.specs.Live.{names_of}
use Rattle.xf_arena_bed.proofs.BehindLemmas.{behind_found}
use Rattle.xf_arena_bed.proofs.bed.Bed.behind.Goals as goal

pub returns-in-Some-clause-next : goal.returns-in-Some-clause-next
returns-in-Some-clause-next c =
    behind_found c.self.inside c.args.self.now c.args.id _ c.in-Some.region
    (names_of c.after.result) c.self.invariant c.self.view_is c.requires c.in-Some.ensures.holder c.after.ensures.next
