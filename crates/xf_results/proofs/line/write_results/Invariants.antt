use Rattle.std.proofs.Common.{◌≤◌, drop}
use Rattle.xf_print.proofs.Writes.{Going}
use Rattle.xf_results.specs.Results.{results_text}
use Rattle.xf_results.proofs.line.write_results.Given as goal

abbrev pub invariant-loop-value : goal.invariant-loop-value
invariant-loop-value g l = record {
  going : Going (g.S.Sink.written l.fn.sink) (results_text l.values) (results_text (drop l.value-index l.values))
      (g.S.Sink.written l.sink);
  grows : g.S.Sink.faults l.fn.sink ≤ g.S.Sink.faults l.sink;
}
