use Rattle.std.proofs.Common.{ap, sym, ◌∙◌, not}
use Rattle.std.specs.FinSet as set
use Rattle.xf_ir.proofs.NumberSets.{contains_keys, insert_keys}
use Rattle.xf_rules_shape.proofs.dim_set.DimSet.insert.Goals as goal

pub returns-clause-new : goal.returns-clause-new
returns-clause-new c = c.in_ok-insert.ensures.added ∙ ap not (sym (contains_keys c.self.inside.numbers c.args.number)
    ∙ ap (λ s. set.contains s c.args.number) c.self.view_is)

pub returns-clause-ok : goal.returns-clause-ok
returns-clause-ok c = insert_keys c.self.inside.numbers c.insert.new.self c.args.number c.in_ok-insert.ensures.updates.0
    ∙ ap (λ s. set.insert s c.args.number) c.self.view_is
