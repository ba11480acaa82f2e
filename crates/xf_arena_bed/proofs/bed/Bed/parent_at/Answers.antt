use Rattle.std.proofs.Common.{sym, ◌∙◌}
use Rattle.xf_arena_bed.specs.Live.{name_of}
use Rattle.xf_arena_bed.proofs.SlotLemmas.{indexed_none}
use Rattle.xf_arena_bed.proofs.MoveWalk.{spot_of_left, spot_named}
use Rattle.xf_arena_bed.proofs.bed.Bed.parent_at.Goals as goal

pub unreachable-requires : goal.unreachable-requires
unreachable-requires c =
    let v = c.args.self.now in
    let k = spot_of_left c.self.inside v c.args.other c.args.at c.self.invariant c.self.view_is c.requires.live
    c.requires.low c.requires.spot
    in
    let t = spot_named c.self.inside v (name_of c.args.other) c.args.at c.self.invariant c.self.view_is k in
    let z = indexed_none c.self.inside v c.args.at.parent c.self.invariant c.self.view_is c.in-None.ensures.none in
    let q = sym z ∙ t.1 in
    cc

pub returns-clause-inside : goal.returns-clause-inside
returns-clause-inside c =
    (spot_of_left c.self.inside c.args.self.now c.args.other c.args.at c.self.invariant c.self.view_is c.requires.live
    c.requires.low c.requires.spot).inside

pub returns-clause-range : goal.returns-clause-range
returns-clause-range c =
    (spot_of_left c.self.inside c.args.self.now c.args.other c.args.at c.self.invariant c.self.view_is c.requires.live
    c.requires.low c.requires.spot).range

pub returns-clause-found : goal.returns-clause-found
returns-clause-found c =
    let k = spot_of_left c.self.inside c.args.self.now c.args.other c.args.at c.self.invariant c.self.view_is
    c.requires.live c.requires.low c.requires.spot
    in
    (k.tree, k.found)
