use Rattle.std.proofs.Common.{◌≡◌, take}
use Rattle.xf_eval_points.specs.Onto.{whole_spans}
use Rattle.xf_eval_points.proofs.onto.whole_spans.Given as goal

abbrev pub invariant-loop-size : goal.invariant-loop-size
invariant-loop-size l = l.spans.items ≡ whole_spans (take l.size-index l.sizes)
