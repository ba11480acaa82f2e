use Rattle.std.proofs.Common.{◌+◌, drop, sym, ap, ◌∙◌}
use Rattle.std.specs.Prelude.{◌&&◌}
use Rattle.std.proofs.lemmas.List.{at_drop_more}
use Rattle.xf_ir.specs.Lists.{every}
use Rattle.xf_verify.specs.Chains.{ends_at}
use Rattle.xf_verify.proofs.calls.all_end.Goals as goal

pub returns-then-not-ends_at : goal.returns-then-not-ends_at
returns-then-not-ends_at c =
    let p = ends_at c.args.ends.now in
    let is = c.args.callees.now in
    let i = c.loop-callee.callee-index in
    ap (λ b. b && every p (drop (i + 1) is)) (sym c.if-not-ends_at.true ∙ c.ends_at.ensures)
    ∙ sym (at_drop_more (every p) is i 0 c.loop-callee-test.true) ∙ c.loop-callee.invariant

pub loop-callee-preserved : goal.loop-callee-preserved
loop-callee-preserved c =
    let p = ends_at c.args.ends.now in
    let is = c.args.callees.now in
    let i = c.loop-callee.callee-index in
    ap (λ b. b && every p (drop (i + 1) is)) (sym c.if-not-ends_at.false ∙ c.ends_at.ensures)
    ∙ sym (at_drop_more (every p) is i 0 c.loop-callee-test.true) ∙ c.loop-callee.invariant
