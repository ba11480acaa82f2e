use Rattle.std.proofs.Common.{rules}
use Rattle.xf_arena_bed.proofs.SlotLemmas.{free_count}
use Rattle.xf_arena_bed.proofs.bed.Bed.free_slots.Goals as goal

pub returns : goal.returns
returns c = free_count c.self.inside c.args.self.now c.len.result c.self.invariant c.self.view_is (search rules)
