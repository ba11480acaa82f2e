use Rattle.std.proofs.Common.{◌+◌, drop, ap, subst, ◌∙◌}
use Rattle.std.proofs.lemmas.List.{drop_more}
use Rattle.xf_format.specs.declared.parts.Ref.{Ref}
use Rattle.xf_read.specs.Names.{earlier}
use Rattle.xf_read.proofs.Arguments.{ArgsLeft, one_entered}
use Rattle.xf_read.proofs.defining.enter_args.Goals as goal

abbrev no_ref : Ref
no_ref = record { token = 0; count = 0 }

pub loop-at-preserved : goal.loop-at-preserved
loop-at-preserved c =
    let a = c.args in
    let at = c.loop-at in
    let all = a.tokens.now in
    let ts = a.types.now in
    let rs = a.args.now in
    let e = c.in_ok-seen.ensures in
    let here = subst (ArgsLeft all a.number ts rs a.scope.now at.scope at.twice at.at)
    (drop_more rs at.at no_ref c.loop-at-test.true) at.invariant in
    one_entered all a.number ts rs a.scope.now at.scope c.enter_arg.new.scope at.twice _ at.at _ (drop (at.at + 1) rs)
    here
    (c.earlier-twice.ensures ∙ ap (earlier at.twice) e.twice) e.names e.grows
