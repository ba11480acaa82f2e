use Rattle.std.proofs.Common.{ℕ, sym, ap, subst, ◌∙◌}
use Rattle.xf_format.specs.Actions.{result_is, Reading, free}
use Rattle.xf_format.specs.Reading.{Gives}
use Rattle.xf_format.specs.Rules.{result_rule, result_tensor_rule}
use Rattle.xf_format.specs.Words.{lookup, widths}
use Rattle.xf_format.proofs.Types.{no_width}
use Rattle.xf_format.proofs.single.result_at.Goals as goal

pub returns-in-None-clause-gives : goal.returns-in-None-clause-gives
unfolding result_rule result_tensor_rule
returns-in-None-clause-gives c gap =
    let view : ℕ → Reading × ℕ = λ n. (free c.result_tensor_at.new.parts, n) in
    subst (λ r. Gives view c.result_tensor_at.result r)
    (sym (no_width result_is gap c.args.tokens.now c.args.parts.now c.args.at
    (sym (c.width_of.ensures ∙ ap (lookup widths) c.word_at.ensures) ∙ c.in-None.is)))
    (c.result_tensor_at.ensures.gives gap)
