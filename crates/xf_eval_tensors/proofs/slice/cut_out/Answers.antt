use Rattle.std.proofs.Common.{subst, Ok, Err}
use Rattle.xf_eval_values.specs.Given.{IsAdmitted}
use Rattle.xf_eval_tensors.proofs.SliceLemmas.{cut_value, cut_refused, cut_gives}
use Rattle.xf_eval_tensors.proofs.slice.cut_out.Goals as goal

pub tensor-requires : goal.tensor-requires
tensor-requires c =
    let t = c.args.tensor.now in
    let a = subst (λ s. IsAdmitted c.args.op c.args.types.now t.width s 0 c.args.budget.now c.admit.new.budget
    (Ok c.in-Ok.field-0))
    c.as_slice.ensures c.in-Ok.ensures in
    cut_value t c.args.spans.now c.args.types.now c.in_ok-shape.shape c.in_ok-elems-in-Ok.elems c.requires a.0
    c.in_ok-shape.ensures c.in_ok-elems-in-Ok.ensures

pub returns-in-Err : goal.returns-in-Err
returns-in-Err c =
    let t = c.args.tensor.now in
    cut_refused c.args.op c.args.types.now t c.args.spans.now c.in_ok-shape.shape c.args.budget.now c.admit.new.budget
    c.in-Err.stop c.requires c.in_ok-shape.ensures
    (subst (λ s. IsAdmitted c.args.op c.args.types.now t.width s 0 c.args.budget.now c.admit.new.budget
    (Err c.in-Err.stop))
    c.as_slice.ensures c.in-Err.ensures)

pub returns-in_ok-tensor-in-Ok : goal.returns-in_ok-tensor-in-Ok
returns-in_ok-tensor-in-Ok c =
    let t = c.args.tensor.now in
    cut_gives c.args.op c.args.types.now t c.args.spans.now c.in_ok-shape.shape c.in_ok-elems-in-Ok.elems
    c.args.budget.now c.admit.new.budget c.in-Ok.field-0 c.in_ok-tensor-in-Ok.field-0 c.requires c.in_ok-shape.ensures
    c.in_ok-elems-in-Ok.ensures
    (subst (λ s. IsAdmitted c.args.op c.args.types.now t.width s 0 c.args.budget.now c.admit.new.budget
    (Ok c.in-Ok.field-0))
    c.as_slice.ensures c.in-Ok.ensures)
    c.in_ok-tensor-in-Ok.ensures
