use Rattle.std.proofs.Common.{ap, sym, ◌∙◌}
use Rattle.std.specs.FinSet as set
use Rattle.xf_ir.proofs.NumberSets.{contains_keys}
use Rattle.xf_rules_shape.proofs.dim_set.DimSet.contains.Goals as goal

pub returns : goal.returns
returns c = c.contains.ensures ∙ sym (contains_keys c.self.inside.numbers c.args.number)
    ∙ ap (λ s. set.contains s c.args.number) c.self.view_is
