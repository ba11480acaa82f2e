use Rattle.std.proofs.Common.{length, refl, sym, subst, ◌∙◌, arith}
use Rattle.std.proofs.lemmas.Result.{err_from_is_err_and}
use Rattle.xf_dense.specs.Actions.{free}
use Rattle.xf_dense.specs.Reading.{body_at, Fails}
use Rattle.xf_dense.proofs.Turns.{scan_goes, scan_past, scan_ends, turn_fails}
use Rattle.xf_dense.proofs.read.body_at.Goals as goal

pub scan-init : goal.scan-init
scan-init c = record {
  rest = (length c.args.tokens.now, omega arith, rw (c.new-state.ensures, c.new-body.ensures) refl);
  begin = omega arith;
  within = rw c.new-state.ensures (tt, tt);
}

pub scan-preserved : goal.scan-preserved
scan-preserved c =
    let i = c.scan.invariant in
    let t = scan_goes i.rest.0 c.args.tokens.now c.scan.state c.turn.new.state (free c.scan.body)
    (free c.turn.new.body) c.scan.next i.rest.1 (omega (arith, c.if-next-tokens.false))
    (sym (c.ends.ensures.value c.scan.state refl) ∙ c.scan-test.true) c.in_ok-turn.ensures.gives in
    record {
      rest = (t.0, t.1.0, t.1.1 ∙ i.rest.2);
      begin = omega (arith, i.begin);
      within = c.in_ok-turn.ensures.within;
    }

pub returns-then-next-tokens-clause-gives : goal.returns-then-next-tokens-clause-gives
returns-then-next-tokens-clause-gives c =
    let i = c.scan.invariant in
    rw c.due_at.ensures (sym i.rest.2 ∙ scan_past i.rest.0 c.args.tokens.now c.scan.state (free c.scan.body) c.scan.next c.if-next-tokens.true)

pub returns-clause-gives : goal.returns-clause-gives
returns-clause-gives c =
    let i = c.scan.invariant in
    sym i.rest.2 ∙ scan_ends i.rest.0 c.args.tokens.now c.scan.state (free c.scan.body) c.scan.next i.rest.1
    (c.ends.ensures.within c.scan-test.false) (sym (c.ends.ensures.value c.scan.state refl) ∙ c.scan-test.false)

pub returns-in_err-turn-clause-gives : goal.returns-in_err-turn-clause-gives
returns-in_err-turn-clause-gives c =
    let i = c.scan.invariant in
    let p = err_from_is_err_and c.from_residual.result c.from_residual.ensures.1 in
    let g = turn_fails c.in_err-turn.field-0.0 i.rest.0 c.args.tokens.now c.scan.state (free c.scan.body) c.scan.next
    (body_at c.args.tokens.now c.args.at) i.rest.1 (omega (arith, c.if-next-tokens.false))
    (sym (c.ends.ensures.value c.scan.state refl) ∙ c.scan-test.true) c.in_err-turn.ensures.gives i.rest.2 in
    rw p.1 (subst (λ e. Fails e (body_at c.args.tokens.now c.args.at)) (sym p.2) g)
