use Rattle.std.proofs.Common.{◌∙◌, ap, subst, Ok, Err}
use Rattle.xf_sem.specs.declared.value.Value.TheVariants.{Tensor}
use Rattle.xf_eval_values.specs.Given.{IsAdmitted}
use Rattle.xf_eval_tensors.proofs.MadeLemmas.{filled_refused, filled_gives, filled_value}
use Rattle.xf_eval_tensors.proofs.made.filled.Goals as goal

pub tensor-requires : goal.tensor-requires
tensor-requires c =
    let a = subst (λ s. IsAdmitted c.args.op c.args.types.now c.args.width s 0 c.args.budget.now c.admit.new.budget (Ok c.in-Ok.count))
    c.as_slice.ensures c.in-Ok.ensures in
    filled_value c.args.width c.args.sizes c.args.elem c.args.types.now c.in-Ok.count c.in_ok-elems-in-Ok.elems
    c.requires a.0 a.1.0 c.in_ok-elems-in-Ok.ensures

pub returns-in-Err : goal.returns-in-Err
returns-in-Err c =
    filled_refused c.args.op c.args.types.now c.args.width c.args.sizes c.args.elem c.args.budget.now c.admit.new.budget
    c.in-Err.stop c.requires
    (subst (λ s. IsAdmitted c.args.op c.args.types.now c.args.width s 0 c.args.budget.now c.admit.new.budget (Err c.in-Err.stop))
    c.as_slice.ensures c.in-Err.ensures)

pub returns-in_ok-tensor-in-Ok : goal.returns-in_ok-tensor-in-Ok
returns-in_ok-tensor-in-Ok c =
    filled_gives c.args.op c.args.types.now c.args.width c.args.sizes c.args.elem c.args.budget.now c.admit.new.budget
    c.in-Ok.count c.in_ok-tensor-in-Ok.field-0 c.requires
    (subst (λ s. IsAdmitted c.args.op c.args.types.now c.args.width s 0 c.args.budget.now c.admit.new.budget (Ok c.in-Ok.count))
    c.as_slice.ensures c.in-Ok.ensures)
    (c.in_ok-tensor-in-Ok.ensures ∙ ap (Tensor c.args.width c.args.sizes) c.in_ok-elems-in-Ok.ensures)
