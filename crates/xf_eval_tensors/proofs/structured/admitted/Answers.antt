use Rattle.std.proofs.Common.{◌∙◌}
use Rattle.xf_eval_tensors.proofs.NamedLemmas.{made_value, made_refused, made_admitted}
use Rattle.xf_eval_tensors.proofs.structured.admitted.Goals as goal

pub tensor-requires : goal.tensor-requires
tensor-requires c =
    made_value c.args.which c.args.extents.now c.args.maps.now c.args.ins.now c.args.out_map.now c.args.out.now
    c.in_ok-shape-in-Ok.shape c.in_ok-elems-in-Ok.elems c.requires.is_value c.requires.width
    (c.in_ok-shape-in-Ok.ensures ∙ c.as_slice-in-Ok.ensures) c.in_ok-elems-in-Ok.ensures

pub returns-in-Err : goal.returns-in-Err
returns-in-Err c =
    made_refused c.args.which c.args.extents.now c.args.maps.now c.args.ins.now c.args.out_map.now c.args.out.now
    c.args.op c.args.types.now c.args.budget.now c.admit_points.new.budget c.in-Err.stop c.as_slice.result.now
    c.requires.is_value c.requires.width c.as_slice.ensures c.in-Err.ensures

pub returns-in_ok-tensor-in-Ok : goal.returns-in_ok-tensor-in-Ok
returns-in_ok-tensor-in-Ok c =
    made_admitted c.args.which c.args.extents.now c.args.maps.now c.args.ins.now c.args.out_map.now c.args.out.now
    c.args.op c.args.types.now c.args.budget.now c.admit_points.new.budget c.in-Ok.field-0 c.as_slice.result.now
    c.in_ok-shape-in-Ok.shape c.in_ok-elems-in-Ok.elems c.in_ok-tensor-in-Ok.field-0 c.requires.is_value
    c.requires.width c.as_slice.ensures c.in-Ok.ensures (c.in_ok-shape-in-Ok.ensures ∙ c.as_slice-in-Ok.ensures)
    c.in_ok-elems-in-Ok.ensures c.in_ok-tensor-in-Ok.ensures
