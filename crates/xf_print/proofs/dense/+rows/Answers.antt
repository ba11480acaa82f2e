use Rattle.xf_dense.specs.Printed.{nest_of}
use Rattle.xf_print.proofs.RowLemmas.{rows_go}
use Rattle.xf_print.proofs.dense.+rows.Goals as goal

pub write_rows-loop-preserved : goal.write_rows-loop-preserved
write_rows-loop-preserved t c =
    rows_go (nest_of c.args.width c.args.dims.now) c.args.more c.loop.counter c.args.size _ _ _ _ _ _ c.loop-test.true
    c.loop.invariant c.in_ok-left.ensures.line c.in_ok-left.ensures.behind c.in_ok-extend_from_slice.ensures.items
