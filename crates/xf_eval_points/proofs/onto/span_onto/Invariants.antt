use Rattle.std.proofs.Common.{◌≡◌, drop}
use Rattle.xf_eval_points.specs.Onto.{span_from, span_onto}
use Rattle.xf_eval_points.proofs.onto.span_onto.Given as goal

abbrev pub invariant-loop-at : goal.invariant-loop-at
invariant-loop-at l =
    span_from l.dim l.span (drop l.at l.map) (drop l.at l.index) ≡ span_onto l.dim l.extent l.map l.index
