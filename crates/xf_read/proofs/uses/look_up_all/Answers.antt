use Rattle.std.proofs.Common.{◌+◌, ◌&&◌, None, drop, get_or, ap, subst, ◌∙◌, arith}
use Rattle.std.proofs.lemmas.List.{drop_more, at_drop_all}
use Rattle.xf_format.specs.declared.parts.Use.{Use}
use Rattle.xf_format.specs.Parts.{said, use_said}
use Rattle.xf_read.specs.Scopes.{use_type}
use Rattle.xf_read.specs.Types.{fits}
use Rattle.xf_read.specs.Visible.{names_in}
use Rattle.xf_read.proofs.LookUps.{UsesLeft, one_used, all_used}
use Rattle.xf_read.proofs.uses.look_up_all.Goals as goal

abbrev no_use : Use
no_use = record { token = 0; number = None }

pub loop-i-preserved : goal.loop-i-preserved
loop-i-preserved c =
    let all = c.args.tokens.now in
    let s = names_in c.args.scope.now in
    let t = said all c.args.parts.now in
    let us = c.args.uses.now in
    let i = c.loop-i.i in
    let here = subst (UsesLeft all s t us c.loop-i.used i) (drop_more us i no_use c.loop-i-test.true)
    c.loop-i.invariant in
    let is = c.in_ok-look_up.ensures in
    let ty = use_type s (use_said all (get_or us i no_use)) in
    let fit = is.fit ∙ ap (λ o. c.loop-i.used.fit && fits o ty) c.operand_type.ensures in
    one_used all s t us c.loop-i.used i _ (drop (i + 1) us) c.look_up.new.used here is.values is.undefined fit

pub returns : goal.returns
returns c =
    let all = c.args.tokens.now in
    let s = names_in c.args.scope.now in
    let t = said all c.args.parts.now in
    let us = c.args.uses.now in
    let i = c.loop-i.i in
    let end = at_drop_all (λ rest. rest) us i (omega (arith, c.loop-i-test.false)) in
    let d = all_used all s t us c.loop-i.used i (subst (UsesLeft all s t us c.loop-i.used i) end c.loop-i.invariant) in
    record { values = d.0; undefined = d.1.0; fit = d.1.1 }
