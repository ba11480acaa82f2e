use Rattle.std.proofs.Common.{◌≡◌, ◌-◌, length, Some, sym, ap, ◌∙◌, arith}
use Rattle.std.proofs.lemmas.Grind.{common_steps}
use Rattle.xf_args.specs.Arguments.{argument_at}
use Rattle.xf_args.proofs.ListLemmas.{turn_end, turn_stop, turn_on_to, some_tokens, one_more}
use Rattle.xf_args.proofs.list.arguments_at.Goals as goal

pub returns-then-next-tokens : goal.returns-then-next-tokens
returns-then-next-tokens c =
    let h : argument_at c.args.tokens.now c.loop-turn.at ≡ Some c.in-Some.found =
    (let a = c.in_ok-argument_at.ensures.value in let b = c.in-Some.is in cc) in
    let p = c.in_ok-push.ensures.ok in
    let e = one_more (length c.args.tokens.now) c.loop-turn.turn (omega (arith, c.loop-turn-test.true)) in
    ap Some p
    ∙ sym (turn_end _ _ c.args.tokens.now c.loop-turn.values c.loop-turn.at c.in-Some.found e h c.if-next-tokens.true)
    ∙ c.loop-turn.invariant.1
    ∙ sym (some_tokens c.args.tokens.now (sym c.is_empty.ensures ∙ c.if-is_empty.false))

pub returns-then-not-looks : goal.returns-then-not-looks
returns-then-not-looks c =
    let h : argument_at c.args.tokens.now c.loop-turn.at ≡ Some c.in-Some.found =
    (let a = c.in_ok-argument_at.ensures.value in let b = c.in-Some.is in cc) in
    let e = one_more (length c.args.tokens.now) c.loop-turn.turn (omega (arith, c.loop-turn-test.true)) in
    let k = c.looks.ensures.value in
    let t = c.if-not-looks.true in
    sym (turn_stop _ _ c.args.tokens.now c.loop-turn.values c.loop-turn.at c.in-Some.found e h c.if-next-tokens.false
    (grind (arith, common_steps, k, t)))
    ∙ c.loop-turn.invariant.1
    ∙ sym (some_tokens c.args.tokens.now (sym c.is_empty.ensures ∙ c.if-is_empty.false))

pub loop-turn-preserved : goal.loop-turn-preserved
loop-turn-preserved c =
    let h : argument_at c.args.tokens.now c.loop-turn.at ≡ Some c.in-Some.found =
    (let a = c.in_ok-argument_at.ensures.value in let b = c.in-Some.is in cc) in
    let p = c.in_ok-push.ensures.ok in
    let e = one_more (length c.args.tokens.now) c.loop-turn.turn (omega (arith, c.loop-turn-test.true)) in
    let k = c.looks.ensures.value in
    let w = c.looks.ensures.within in
    let t = c.if-not-looks.false in (
      grind (arith, common_steps, k, w, t),
      (turn_on_to _ _ c.push.new.self c.args.tokens.now c.loop-turn.values c.loop-turn.at c.in-Some.found p e h
          c.if-next-tokens.false (grind (arith, common_steps, k, t)))
          ∙ c.loop-turn.invariant.1,
    )
