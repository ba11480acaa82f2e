use Rattle.std.proofs.Common.{◌+◌, refl, sym, ◌∙◌, arith}
use Rattle.xf_read_base.proofs.Braces.{closes, goes_on}
use Rattle.xf_read_base.proofs.spelt.behind_brace.Goals as goal

pub returns-then-looks : goal.returns-then-looks
returns-then-looks c =
    sym (closes c.args.tokens.now c.loop-at.at c.loop-at.at (sym c.looks.ensures.value ∙ c.if-looks.true))
    ∙ c.loop-at.invariant

pub loop-at-preserved : goal.loop-at-preserved
loop-at-preserved c =
    sym (goes_on c.args.tokens.now c.loop-at.at (c.loop-at.at + 1) c.loop-at.at (omega (arith, c.loop-at-test.true)) refl
    (sym c.looks.ensures.value ∙ c.if-looks.false))
    ∙ c.loop-at.invariant
