use Rattle.xf_arena_bed.proofs.HomeLemmas.{housed}
use Rattle.xf_arena_bed.proofs.bed.Bed.parent.Goals as goal

pub returns-clause-live : goal.returns-clause-live
returns-clause-live c =
    (housed c.self.inside c.args.self.now c.args.id c.index.result.now c.in-Some.node c.self.invariant c.self.view_is
    c.requires c.index.ensures c.in-Some.is).live

pub returns-clause-holder : goal.returns-clause-holder
returns-clause-holder c =
    (housed c.self.inside c.args.self.now c.args.id c.index.result.now c.in-Some.node c.self.invariant c.self.view_is
    c.requires c.index.ensures c.in-Some.is).holder

pub returns-clause-inner : goal.returns-clause-inner
returns-clause-inner c =
    (housed c.self.inside c.args.self.now c.args.id c.index.result.now c.in-Some.node c.self.invariant c.self.view_is
    c.requires c.index.ensures c.in-Some.is).inner

pub returns-clause-root : goal.returns-clause-root
returns-clause-root c =
    (housed c.self.inside c.args.self.now c.args.id c.index.result.now c.in-Some.node c.self.invariant c.self.view_is
    c.requires c.index.ensures c.in-Some.is).root
