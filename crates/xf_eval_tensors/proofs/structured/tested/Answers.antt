use Rattle.std.proofs.Common.{length, sym, ap, ◌∙◌}
use Rattle.xf_points.specs.Points.{product}
use Rattle.xf_eval_tensors.proofs.NamedLemmas.{made_length}
use Rattle.xf_eval_tensors.proofs.structured.tested.Goals as goal

pub admit_made-requires-clause-elems : goal.admit_made-requires-clause-elems
admit_made-requires-clause-elems c =
    ap length c.in_ok-elems.ensures
    ∙ made_length c.args.which c.args.extents.now c.args.maps.now c.args.ins.now c.args.out_map.now c.args.out.now
    ∙ ap product (sym (c.in_ok-shape.ensures ∙ c.as_slice.ensures))
