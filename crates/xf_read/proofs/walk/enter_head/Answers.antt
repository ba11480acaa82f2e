use Rattle.std.proofs.Common.{◌≡◌, refl, ap, ◌∙◌}
use Rattle.xf_read.specs.Names.{with_faults, twice_fault, args_twice}
use Rattle.xf_format.specs.Parts.{said}
use Rattle.xf_read.specs.Types.{argument_types}
use Rattle.xf_read.specs.Visible.{names_in}
use Rattle.xf_read.proofs.Earlier.{faults_regrouped}
use Rattle.xf_read.proofs.Heads.{head_faults_are}
use Rattle.xf_read.proofs.walk.enter_head.Goals as goal

pub returns-clause-moved : goal.returns-clause-moved
returns-clause-moved c = λ first is.
    let all = c.args.tokens.now in
    let p = c.args.parts.now in
    let n = c.args.walk.now.next in
    let s = names_in c.args.walk.now.scope in
    let h = c.args.head.now in
    let t = c.in_ok-twice.twice in
    let e : t ≡ args_twice all n 0 (argument_types (said all p)) p.args s =
    c.in_ok-twice.ensures.twice ∙ ap (λ ts. args_twice all n 0 ts c.as_slice-args.result.now s) is.args
    ∙ ap (λ rs. args_twice all n 0 (argument_types (said all p)) rs s) c.as_slice-args.ensures in
    record {
      next = refl;
      places_are = c.in_ok-push.ensures.ok;
      faults_are = c.with_twice-walk.ensures ∙ ap (λ x. with_faults x (twice_fault t)) c.with.ensures
          ∙ faults_regrouped c.args.walk.now.faults h.faults (twice_fault t)
          ∙ ap (with_faults c.args.walk.now.faults) (head_faults_are all n first p s h t is e);
    }
