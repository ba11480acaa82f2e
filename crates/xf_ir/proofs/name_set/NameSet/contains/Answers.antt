use Rattle.std.proofs.Common.{ap, sym, ◌∙◌}
use Rattle.std.specs.FinSet as set
use Rattle.xf_ir.proofs.NumberSets.{contains_keys}
use Rattle.xf_ir.proofs.name_set.NameSet.contains.Goals as goal

pub returns : goal.returns
returns c = c.contains.ensures ∙ sym (contains_keys c.self.inside.numbers c.args.name.0)
    ∙ ap (λ s. set.contains s c.args.name.0) c.self.view_is
