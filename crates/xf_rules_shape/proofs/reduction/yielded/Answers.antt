use Rattle.std.proofs.Common.{ap, ◌∙◌}
use Rattle.xf_ir.specs.Tree.{Tree}
use Rattle.xf_ir.specs.RuleLinalg.{only_value}
use Rattle.xf_rules_shape.proofs.DependentLemmas.{yielded_last}
use Rattle.xf_rules_shape.proofs.reduction.yielded.Goals as goal

pub returns-in-len1-up : goal.returns-in-len1-up
returns-in-len1-up c =
    c.only_value.ensures ∙ ap only_value (c.as_slice.ensures ∙ ap (λ (t : Tree). t.operands) c.last.view_is)
    ∙ yielded_last c.args.ops.now c.last-item.result c.in-len1-up.len_at_least c.last-item.is
