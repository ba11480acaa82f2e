use Rattle.std.proofs.Common.{refl}
use Rattle.xf_opt.proofs.Runs.{begins, smaller, turn, ended}
use Rattle.xf_opt.proofs.run.erase_dead.Goals as goal

pub loop-name-init : goal.loop-name-init
loop-name-init c = begins _ _ c.requires.form c.requires.fresh

pub loop-name-smaller : goal.loop-name-smaller
loop-name-smaller c = smaller c.loop-name.m _ c.in-Some.name c.loop-name.invariant.form
    (rw c.in-Some.is at c.in_ok-name.ensures.found) c.in_ok-apply_edit.ensures.ok

pub loop-name-preserved : goal.loop-name-preserved
loop-name-preserved c = turn _ c.loop-name.m _ c.loop-name.journal _ c.in-Some.name c.loop-name.invariant
    (rw c.in-Some.is at c.in_ok-name.ensures.found) c.in_ok-apply_edit.ensures.ok c.in_ok-push.ensures.ok

pub returns-clause-runs : goal.returns-clause-runs
returns-clause-runs c = ended _ _ c.loop-name.journal _ c.requires.root c.loop-name.invariant
    ((rw c.in_default.is at c.in_ok-name.ensures.none) refl) c.in_ok-push-2.ensures.ok
