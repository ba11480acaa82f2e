use Rattle.std.proofs.Common.{◌∙◌, sym}
use Rattle.xf_eval_tensors.proofs.PutLemmas.{box_length}
use Rattle.xf_eval_tensors.proofs.slice_put.elem_at.Goals as goal

pub take_from-requires-clause-point : goal.take_from-requires-clause-point
take_from-requires-clause-point c =
    box_length c.args.spans.now c.args.point.now (sym c.is_inside.ensures ∙ c.if-is_inside.true)
