use Rattle.std.proofs.Common.{None, Some, sym, ap, ◌∙◌}
use Rattle.std.specs.Prelude.{if◌then◌else◌}
use Rattle.xf_verify.specs.Visible.{definitions_in, with_definition}
use Rattle.xf_verify.proofs.Defining.{not_entered}
use Rattle.xf_verify.proofs.scope.VisibleValues.enter.Goals as goal

pub returns-else-has_types : goal.returns-else-has_types
returns-else-has_types c =
    let ds = definitions_in c.args.self.now in
    let d = c.args.definition in
    not_entered c.args.name.0 ds c.requires
    ∙ ap (λ b. with_definition c.args.name.0 (if b then Some d else None) ds)
    (sym (sym c.has_types.ensures ∙ c.if-has_types.false))
