use Rattle.xf_arena_tree.proofs.BridgeLemmas.{erased_is}
use Rattle.xf_arena_bed.proofs.KidRows.{names_distinct}
use Rattle.std.proofs.Common.{arith}
use Rattle.xf_arena_bed.proofs.KidLemmas.{kid_none, kid_before, kid_is, kid_not_none}
use Rattle.xf_arena_bed.proofs.bed.Bed.last_kid.Goals as goal

pub returns-then-last-id-clause-none : goal.returns-then-last-id-clause-none
returns-then-last-id-clause-none c =
    kid_none c.self.inside c.args.self.now c.args.id.slot
    (record { 0 = c.args.id.serial }) c.prev-last.result c.self.invariant c.self.view_is c.requires.live
    c.prev-last.ensures c.if-last-id.true

pub unreachable-requires : goal.unreachable-requires
unreachable-requires c =
    let b = kid_before c.self.inside c.args.self.now c.args.id.slot
    (record { 0 = c.args.id.serial }) c.prev-last.result c.self.invariant c.self.view_is c.requires.live
    c.requires.low c.prev-last.ensures c.if-last-id.false in
    kid_not_none c.self.inside.nodes.items _ _ _ c.index.result.now b
    (omega (arith, c.self.invariant.holds.size, c.prev-last.ensures.in_p)) c.index.ensures c.in-None.is

pub returns-clause-inner : goal.returns-clause-inner
returns-clause-inner c =
    let b = kid_before c.self.inside c.args.self.now c.args.id.slot
    (record { 0 = c.args.id.serial }) c.prev-last.result c.self.invariant c.self.view_is c.requires.live
    c.requires.low c.prev-last.ensures c.if-last-id.false in
    kid_is c.self.inside.nodes.items _ _ _ c.index.result.now c.in-Some.node b
    (omega (arith, c.self.invariant.holds.size, c.prev-last.ensures.in_p)) c.index.ensures c.in-Some.is

pub returns-then-last-id-clause-exact : goal.returns-then-last-id-clause-exact
returns-then-last-id-clause-exact c = λ o.
    erased_is o c.args.self.now.root (names_distinct c.self.inside c.args.self.now c.self.invariant c.self.view_is)

pub returns-clause-exact : goal.returns-clause-exact
returns-clause-exact c = λ o.
    erased_is o c.args.self.now.root (names_distinct c.self.inside c.args.self.now c.self.invariant c.self.view_is)
