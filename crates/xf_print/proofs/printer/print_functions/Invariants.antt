use Rattle.std.proofs.Common.{◌≤◌, drop}
use Rattle.xf_ir.specs.View.{ops_of}
use Rattle.xf_print.specs.Lines.{fed, functions_text}
use Rattle.xf_print.proofs.Writes.{Going}
use Rattle.xf_print.proofs.printer.print_functions.Given as goal

abbrev pub invariant-loop-function : goal.invariant-loop-function
invariant-loop-function g l = record {
  going : Going (g.S.Sink.written l.fn.sink) (fed (functions_text (ops_of l.functions)))
      (fed (functions_text (ops_of (drop l.function-index l.functions)))) (g.S.Sink.written l.sink);
  grows : g.S.Sink.faults l.fn.sink ≤ g.S.Sink.faults l.sink;
}
