use Rattle.std.proofs.Common.{◌≤◌, ◌+◌, ◌*◌, ◌++◌, ◌∷◌, [], true, drop}
use Rattle.xf_ir.specs.View.{ops_of, regions_of, tree_size, ops_size, body_size}
use Rattle.xf_print_base.specs.Index.{names_of}
use Rattle.xf_print.specs.Lines.{fed, ops_text, rest_text}
use Rattle.xf_print.proofs.Writes.{Going}
use Rattle.xf_print.proofs.printer.+print.Given as goal

abbrev pub decreases-print_ops : goal.decreases-print_ops
decreases-print_ops g l = 5 * ops_size (ops_of l.ops.now)

abbrev pub decreases-print_op : goal.decreases-print_op
decreases-print_op g l = 5 * tree_size l.op.now + 4

abbrev pub decreases-print_tree : goal.decreases-print_tree
decreases-print_tree g l = 5 * tree_size l.op.now + 3

abbrev pub decreases-print_rest : goal.decreases-print_rest
decreases-print_rest g l = 5 * tree_size l.op.now + 2

abbrev pub decreases-print_block : goal.decreases-print_block
decreases-print_block g l = 5 * body_size l.block.now + 2

abbrev pub decreases-print_inner : goal.decreases-print_inner
decreases-print_inner g l = 5 * body_size l.block.now + 1

abbrev pub invariant-print_ops-loop-op : goal.invariant-print_ops-loop-op
invariant-print_ops-loop-op g l = record {
  going : Going (g.S.Sink.written l.fn.sink) (fed (ops_text (names_of l.names) l.margin (ops_of l.ops)))
      (fed (ops_text (names_of l.names) l.margin (ops_of (drop l.op-index l.ops)))) (g.S.Sink.written l.sink);
  grows : g.S.Sink.faults l.fn.sink ≤ g.S.Sink.faults l.sink;
}

abbrev pub invariant-print_rest-loop-block : goal.invariant-print_rest-loop-block
invariant-print_rest-loop-block g l = record {
  going : Going (g.S.Sink.written l.fn.sink)
      ((l.fn.line.items ++ rest_text (names_of l.names) l.margin l.op true l.op.regions) ++ 10 ∷ [])
      ((l.line.items ++ rest_text (names_of l.names) l.margin l.op l.first
      (regions_of (drop l.block-index l.blocks))) ++ 10 ∷ []) (g.S.Sink.written l.sink);
  grows : g.S.Sink.faults l.fn.sink ≤ g.S.Sink.faults l.sink;
}
