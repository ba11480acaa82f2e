use Rattle.std.proofs.Common.{◌≡◌, ◌++◌, true, length}
use Rattle.std.specs.Prelude.{map}
use Rattle.xf_type.specs.declared.payload_type.Elem.TheVariants.{NoNumber}
use Rattle.xf_ir.specs.Lists.{Each}
use Rattle.xf_points.specs.Points.{element}
use Rattle.xf_eval_points.specs.Spans.{IsOpen, rest_from}
use Rattle.xf_eval_tensors.specs.Slices.{elems_in}
use Rattle.xf_eval_tensors.proofs.slice.elems_by_point.Given as goal

abbrev pub decreases-loop-more : goal.decreases-loop-more
decreases-loop-more l = length (rest_from l.more l.spans l.point)

abbrev pub invariant-loop-more : goal.invariant-loop-more
invariant-loop-more l = record {
  done : l.elems.items ++ map (element NoNumber l.tensor.shape l.tensor.elems) (rest_from l.more l.spans l.point)
      ≡ elems_in l.tensor l.spans;
  room : length l.point ≡ length l.spans;
  opens : l.more ≡ true → Each IsOpen l.spans;
}
