use Rattle.std.proofs.Common.{◌≡◌, ◌++◌, ◌-◌, get_or, length}
use Rattle.std.specs.Prelude.{map}
use Rattle.xf_points.specs.Points.{counted}
use Rattle.xf_eval_points.specs.Onto.{span_onto, spans_onto}
use Rattle.xf_eval_points.proofs.onto.spans_onto.Given as goal

abbrev pub invariant-loop-dim : goal.invariant-loop-dim
invariant-loop-dim l =
    l.spans.items
    ++ map (λ d. span_onto d (get_or l.extents d 0) l.map l.index) (counted l.dim (length l.extents - l.dim))
    ≡ spans_onto l.map l.index l.extents
