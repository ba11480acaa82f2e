use Rattle.std.proofs.Common.{None, Some, sym, ap, ◌∙◌}
use Rattle.xf_read.specs.declared.scope.VisibleNames.{VisibleNames}
use Rattle.xf_read.specs.Visible.{names_in, set_name}
use Rattle.xf_read.proofs.Scoping.{updated}
use Rattle.xf_read.proofs.scope.VisibleNames.put_back.Goals as goal

pub returns-in_ok-insert-in-Some-clause-names : goal.returns-in_ok-insert-in-Some-clause-names
returns-in_ok-insert-in-Some-clause-names c =
    let s = c.args.self.now in
    let after : VisibleNames = record { visible = c.insert.new.self; changes = s.changes } in
    updated c.args.change.name.now s after (Some c.in-Some.named) c.in_ok-insert-in-Some.ensures.updates
    ∙ ap (λ w. set_name c.args.change.name.now w (names_in s)) (sym c.in-Some.is)

pub returns-in-None-clause-names : goal.returns-in-None-clause-names
returns-in-None-clause-names c =
    let s = c.args.self.now in
    let after : VisibleNames = record { visible = c.remove.new.self; changes = s.changes } in
    updated c.args.change.name.now s after None c.remove.ensures.updates
    ∙ ap (λ w. set_name c.args.change.name.now w (names_in s)) (sym c.in-None.is)
