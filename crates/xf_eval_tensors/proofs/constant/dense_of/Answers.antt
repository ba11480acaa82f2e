use Rattle.std.proofs.Common.{◌∙◌, ap, subst, Ok, Err}
use Rattle.xf_points.specs.Points.{product}
use Rattle.xf_sem.specs.declared.value.Value.TheVariants.{Tensor}
use Rattle.xf_eval_values.specs.Given.{IsAdmitted}
use Rattle.xf_eval_tensors.specs.Dense.{AllFit, SomeUnfit}
use Rattle.xf_eval_tensors.proofs.DenseLemmas.{unfit_gives, dense_refused, dense_gives, dense_value}
use Rattle.xf_eval_tensors.proofs.constant.dense_of.Goals as goal

pub returns-then-not-elements_fit : goal.returns-then-not-elements_fit
returns-then-not-elements_fit c =
    unfit_gives c.args.op c.args.types.now c.args.width c.args.sizes c.args.numbers.now c.args.budget.now
    (subst (λ s. SomeUnfit c.args.width c.args.numbers.now (product s)) c.as_slice.ensures c.if-not-elements_fit.ensures)

pub tensor-requires : goal.tensor-requires
tensor-requires c =
    let a = subst (λ s. IsAdmitted c.args.op c.args.types.now c.args.width s 0 c.args.budget.now c.admit.new.budget (Ok c.in-Ok.count))
    c.as_slice-2.ensures c.in-Ok.ensures in
    let f = subst (λ s. AllFit c.args.width c.args.numbers.now (product s)) c.as_slice.ensures c.if-not-elements_fit.ensures in
    dense_value c.args.width c.args.sizes c.args.numbers.now c.args.types.now c.in-Ok.count c.in_ok-elems-in-Ok.elems
    f a.0 a.1.0 c.in_ok-elems-in-Ok.ensures

pub returns-in-Err : goal.returns-in-Err
returns-in-Err c =
    dense_refused c.args.op c.args.types.now c.args.width c.args.sizes c.args.numbers.now c.args.budget.now
    c.admit.new.budget c.in-Err.stop
    (subst (λ s. AllFit c.args.width c.args.numbers.now (product s)) c.as_slice.ensures c.if-not-elements_fit.ensures)
    (subst (λ s. IsAdmitted c.args.op c.args.types.now c.args.width s 0 c.args.budget.now c.admit.new.budget (Err c.in-Err.stop))
    c.as_slice-2.ensures c.in-Err.ensures)

pub returns-in_ok-tensor-in-Ok : goal.returns-in_ok-tensor-in-Ok
returns-in_ok-tensor-in-Ok c =
    dense_gives c.args.op c.args.types.now c.args.width c.args.sizes c.args.numbers.now c.args.budget.now
    c.admit.new.budget c.in-Ok.count c.in_ok-tensor-in-Ok.field-0
    (subst (λ s. AllFit c.args.width c.args.numbers.now (product s)) c.as_slice.ensures c.if-not-elements_fit.ensures)
    (subst (λ s. IsAdmitted c.args.op c.args.types.now c.args.width s 0 c.args.budget.now c.admit.new.budget (Ok c.in-Ok.count))
    c.as_slice-2.ensures c.in-Ok.ensures)
    (c.in_ok-tensor-in-Ok.ensures ∙ ap (Tensor c.args.width c.args.sizes) c.in_ok-elems-in-Ok.ensures)
