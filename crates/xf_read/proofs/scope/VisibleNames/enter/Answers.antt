use Rattle.std.proofs.Common.{Some, refl, ap, ◌∙◌}
use Rattle.std.specs.Prelude.{is_some}
use Rattle.xf_read.specs.declared.scope.Hidden.{Hidden}
use Rattle.xf_read.specs.declared.scope.VisibleNames.{VisibleNames}
use Rattle.xf_read.specs.Scopes.{beside}
use Rattle.xf_read.specs.Visible.{names_in, set_name}
use Rattle.xf_read.proofs.Scoping.{updated, entered}
use Rattle.xf_read.proofs.scope.VisibleNames.enter.Goals as goal

pub returns : goal.returns
returns c =
    let s = c.args.self.now in
    let name = c.args.name.now in
    let after : VisibleNames = record { visible = c.insert.new.self; changes = c.push.new.self } in
    let change : Hidden = record { name = c.args.name; before = c.in_ok-before.before } in
    let old = c.in_ok-before.ensures.old in
    let together = c.beside-together.ensures ∙ ap (λ o. beside o c.args.named) c.look.ensures in
    let names = updated name s after (Some c.beside-together.result) c.in_ok-before.ensures.updates
    ∙ ap (λ x. set_name name (Some x) (names_in s)) together in
    record {
      seen = c.is_some-seen.ensures ∙ ap is_some old;
      names = names;
      grows = entered s after name c.args.named change c.in_ok-push.ensures.items refl old names;
    }
