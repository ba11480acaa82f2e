use Rattle.std.proofs.Common.{◌≡◌, ◌++◌, true, length}
use Rattle.std.specs.Prelude.{map}
use Rattle.xf_ir.specs.Lists as lists
use Rattle.xf_points.specs.Points.{Each, Below}
use Rattle.xf_points.specs.Operands.{structured}
use Rattle.xf_sem.specs.Structured.{body_of, operands}
use Rattle.xf_sem.specs.Tensors.{items_of}
use Rattle.xf_eval_values.specs.Held.{as_value}
use Rattle.xf_eval_points.specs.Frames.{made}
use Rattle.xf_eval_points.specs.Spans.{IsOpen, rest_from}
use Rattle.xf_eval_points.proofs.named.elems_by_index.Given as goal

abbrev pub decreases-loop-more : goal.decreases-loop-more
decreases-loop-more l = length (rest_from l.more l.outer l.index)

abbrev pub invariant-loop-more : goal.invariant-loop-more
invariant-loop-more l =
    let body = body_of l.kind l.out.width in
    let rest = rest_from l.more l.outer l.index in
    record {
      done : l.elems.items ++ map (structured l.extents l.out_map body (operands l.maps l.ins) (items_of (as_value l.out))) rest
          ≡ made body l.extents l.maps l.ins l.out_map l.out;
      room : length l.point ≡ length l.extents;
      outer_room : length l.index ≡ length l.outer;
      below : Each (λ j. Below j l.out.shape) rest;
      opens : l.more ≡ true → lists.Each IsOpen l.outer;
    }
