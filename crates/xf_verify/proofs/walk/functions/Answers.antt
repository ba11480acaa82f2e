use Rattle.std.proofs.Common.{◌≡◌, ◌+◌, Err, None, drop, sym, ap, subst, ◌∙◌}
use Rattle.std.proofs.lemmas.Result.{err_from_is_err_and}
use Rattle.xf_ir.specs.View.{ops_of}
use Rattle.xf_verify.specs.Visible.{types_in, type_among}
use Rattle.xf_verify.specs.Judged.{Answers, holder_seen, first_behind, names_behind, tree_stands}
use Rattle.xf_verify.proofs.Stepping.{functions_stop, functions_judged, functions_named}
use Rattle.xf_verify.proofs.walk.functions.Goals as goal

pub returns-in_err-operation-clause-judged : goal.returns-in_err-operation-clause-judged
returns-in_err-operation-clause-judged c =
    let p = err_from_is_err_and c.from_residual.result c.from_residual.ensures.1 in
    let w = c.loop-number.walk in
    let see = types_in w.scope in
    let h = holder_seen c.args.holder in
    let judged = subst (λ us. Answers {A = Unit {0}} (Err c.in_err-operation.field-0.0)
    (first_behind c.args.facts.now w.names (tree_stands h see c.index-ops-number.result (ops_of us))))
    c.behind.ensures c.in_err-operation.ensures.judged in
    let a = functions_stop c.args.facts.now h c.args.ops.now c.loop-number.number c.index-ops-number.result
    c.index-ops-number.is c.loop-number-test.true (Unit {0})
    (Unit {0}) see w.names c.in_err-operation.field-0.0 _ c.loop-number.invariant.judged judged in
    rw (p.1, p.2) a

pub loop-number-preserved : goal.loop-number-preserved
loop-number-preserved c =
    let f = c.args.facts.now in
    let h = holder_seen c.args.holder in
    let ts = c.args.ops.now in
    let i = c.loop-number.number in
    let x = c.index-ops-number.result in
    let w = c.loop-number.walk in
    let u = c.operation.new.walk in
    let see = types_in w.scope in
    let e = c.in_ok-operation.ensures in
    let inv = c.loop-number.invariant in
    let rest = ops_of (drop (i + 1) ts) in
    let judged : first_behind f w.names (tree_stands h see x rest) ≡ None =
    ap (λ us. first_behind f w.names (tree_stands h see x (ops_of us))) (sym c.behind.ensures) ∙ e.judged in
    let names : u.names ≡ names_behind w.names (tree_stands h see x rest) = e.moved.names
    ∙ ap (λ us. names_behind w.names (tree_stands h see x (ops_of us))) c.behind.ensures in
    let again : types_in u.scope ≡ see = ap type_among e.moved.scope in
    record {
      judged = functions_judged f h ts i x c.index-ops-number.is c.loop-number-test.true see
          (types_in u.scope) w.names u.names _ judged names again inv.judged;
      names = functions_named f h ts i x c.index-ops-number.is c.loop-number-test.true see
          (types_in u.scope) w.names u.names _ names again inv.names;
      scope = e.moved.scope ∙ inv.scope;
      named = e.moved.named;
    }
