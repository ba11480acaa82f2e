use Rattle.std.proofs.Common.{ap, ◌∙◌, ◌++◌, ◌∷◌, []}
use Rattle.xf_read.proofs.Joining.{ended, not_ended}
use Rattle.xf_read.proofs.walk.end_body.Goals as goal

pub returns-in_ok-push-2-clause-ops : goal.returns-in_ok-push-2-clause-ops
returns-in_ok-push-2-clause-ops c =
    ended c.args.ops.now.items c.push.new.self.items c.args.walk.now.next c.args.lacks c.if-lacks.true
    (c.in_ok-push.ensures.items ∙ (ap (λ os. os ++ c.plain_yield.result ∷ []) c.reserve_exact.ensures.items
    ∙ ap (λ o. c.args.ops.now.items ++ o ∷ []) c.plain_yield.ensures))

pub returns-else-lacks-clause-ops : goal.returns-else-lacks-clause-ops
returns-else-lacks-clause-ops c = not_ended c.args.ops.now.items c.args.walk.now.next c.args.lacks c.if-lacks.false
