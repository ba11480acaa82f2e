use Rattle.std.proofs.Common.{◌≡◌, drop}
use Rattle.xf_eval_tensors.specs.Slices.{spans_before, spans_in}
use Rattle.xf_eval_tensors.proofs.windows.spans_in.Given as goal

abbrev pub invariant-loop-at : goal.invariant-loop-at
invariant-loop-at l =
    spans_before l.spans (spans_in (drop l.at l.offsets) (drop l.at l.sizes) (drop l.at l.extents))
    ≡ spans_in l.offsets l.sizes l.extents
