use Rattle.std.proofs.Common.{◌≡◌, true, length}
use Rattle.xf_ir.specs.Lists.{Each}
use Rattle.xf_points.specs.Folds.{everywhere, folded}
use Rattle.xf_points.specs.Operands.{step_of}
use Rattle.xf_sem.specs.Structured.{body_of, operands}
use Rattle.xf_eval_points.specs.Spans.{IsOpen, spread, rest_from}
use Rattle.xf_eval_points.proofs.named.fold_box.Given as goal

abbrev pub decreases-loop-more : goal.decreases-loop-more
decreases-loop-more l = length (rest_from l.more l.spans l.point)

-- the points that are left do to the element what all do to the first
abbrev pub invariant-loop-more : goal.invariant-loop-more
invariant-loop-more l =
    let step = step_of (body_of l.kind l.width) (operands l.maps l.ins) in
    record {
      done : folded everywhere step (rest_from l.more l.spans l.point) l.elem ≡ folded everywhere step (spread l.spans) l.initial.elem;
      room : length l.point ≡ length l.spans;
      opens : l.more ≡ true → Each IsOpen l.spans;
    }
