use Rattle.xf_arena_bed.proofs.KidRows.{names_distinct}
use Rattle.xf_arena_bed.proofs.SlotLemmas.{indexed_none}
use Rattle.xf_arena_bed.proofs.bed.Bed.id_of.Goals as goal

pub returns-in-None-clause-none : goal.returns-in-None-clause-none
returns-in-None-clause-none c =
    indexed_none c.self.inside c.args.self.now c.args.name c.self.invariant c.self.view_is c.in-None.ensures.none

pub returns-in-Some-clause-distinct : goal.returns-in-Some-clause-distinct
returns-in-Some-clause-distinct c = names_distinct c.self.inside c.args.self.now c.self.invariant c.self.view_is

pub returns-in-None-clause-distinct : goal.returns-in-None-clause-distinct
returns-in-None-clause-distinct c = names_distinct c.self.inside c.args.self.now c.self.invariant c.self.view_is
