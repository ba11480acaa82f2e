use Rattle.xf_arena_bed.proofs.HomeLemmas.{index_found}
use Rattle.xf_arena_bed.proofs.bed.Bed.index_of.Goals as goal

pub returns-in-Some : goal.returns-in-Some
returns-in-Some c =
    index_found c.self.inside c.args.self.now c.args.id (c.in-Some.parent, c.in-Some.region) c.index_in.result
    c.self.invariant c.self.view_is c.requires c.in-Some.ensures.holder c.index_in.ensures
