use Rattle.std.proofs.Common.{◌≡◌, ◌++◌, true, length}
use Rattle.std.specs.Prelude.{map}
use Rattle.xf_ir.specs.Lists.{Each}
use Rattle.xf_points.specs.Points.{listed}
use Rattle.xf_eval_points.specs.Spans.{IsOpen, rest_from}
use Rattle.xf_eval_tensors.specs.Slices.{item_over}
use Rattle.xf_eval_tensors.proofs.slice_put.elems_by_point.Given as goal

abbrev pub decreases-loop-more : goal.decreases-loop-more
decreases-loop-more l = length (rest_from l.more l.outer l.point)

abbrev pub invariant-loop-more : goal.invariant-loop-more
invariant-loop-more l = record {
  done : l.elems.items ++ map (item_over l.source l.target l.spans) (rest_from l.more l.outer l.point)
      ≡ listed l.target.shape (item_over l.source l.target l.spans);
  point_room : length l.point ≡ length l.outer;
  room : length l.local ≡ length l.spans;
  opens : l.more ≡ true → Each IsOpen l.outer;
}
