use Rattle.std.proofs.Common.{◌∙◌, subst, Ok, Err}
use Rattle.xf_eval_values.specs.Given.{IsAdmitted}
use Rattle.xf_eval_tensors.proofs.PutLemmas.{put_value, put_refused, put_gives}
use Rattle.xf_eval_tensors.proofs.slice_put.put_over.Goals as goal

pub tensor-requires : goal.tensor-requires
tensor-requires c =
    put_value c.args.source.now c.args.target.now c.args.spans.now c.in_ok-shape-in-Ok.shape c.in_ok-elems-in-Ok.elems
    c.requires.source c.requires.target c.requires.width (c.in_ok-shape-in-Ok.ensures ∙ c.as_slice-in-Ok.ensures)
    c.in_ok-elems-in-Ok.ensures

pub returns-in-Err : goal.returns-in-Err
returns-in-Err c =
    let t = c.args.target.now in
    put_refused c.args.op c.args.types.now c.args.source.now t c.args.spans.now c.args.budget.now c.admit.new.budget
    c.in-Err.stop c.requires.source c.requires.target c.requires.width
    (subst (λ s. IsAdmitted c.args.op c.args.types.now t.width s 0 c.args.budget.now c.admit.new.budget
    (Err c.in-Err.stop))
    c.as_slice.ensures c.in-Err.ensures)

pub returns-in_ok-tensor-in-Ok : goal.returns-in_ok-tensor-in-Ok
returns-in_ok-tensor-in-Ok c =
    let t = c.args.target.now in
    put_gives c.args.op c.args.types.now c.args.source.now t c.args.spans.now c.in_ok-shape-in-Ok.shape
    c.in_ok-elems-in-Ok.elems c.args.budget.now c.admit.new.budget c.in-Ok.field-0 c.in_ok-tensor-in-Ok.field-0
    c.requires.source c.requires.target c.requires.width (c.in_ok-shape-in-Ok.ensures ∙ c.as_slice-in-Ok.ensures)
    c.in_ok-elems-in-Ok.ensures
    (subst (λ s. IsAdmitted c.args.op c.args.types.now t.width s 0 c.args.budget.now c.admit.new.budget
    (Ok c.in-Ok.field-0))
    c.as_slice.ensures c.in-Ok.ensures)
    c.in_ok-tensor-in-Ok.ensures
