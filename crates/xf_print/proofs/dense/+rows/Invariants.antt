use Rattle.std.proofs.Common.{◌≡◌, ◌++◌, ◌+◌, ◌-◌, ◌*◌, length}
use Rattle.xf_dense.specs.Printed.{nest_of, row_nests}
use Rattle.xf_print.specs.Bodies.{nests_text}
use Rattle.xf_print.proofs.dense.+rows.Given as goal

abbrev pub decreases-write_nested : goal.decreases-write_nested
decreases-write_nested l = 4 * length l.dims.now

abbrev pub decreases-write_row : goal.decreases-write_row
decreases-write_row l = 4 * length l.dims.now + 1

abbrev pub decreases-write_rows : goal.decreases-write_rows
decreases-write_rows l = 4 * length l.dims.now + 2

abbrev pub decreases-write_list : goal.decreases-write_list
decreases-write_list l = 4 * length l.dims.now + 3

abbrev pub invariant-write_rows-loop : goal.invariant-write_rows-loop
invariant-write_rows-loop l =
    l.line.items ++ nests_text (row_nests (nest_of l.width l.dims) (l.more - l.counter) l.size l.left)
    ≡ l.fn.line.items ++ nests_text (row_nests (nest_of l.width l.dims) l.more l.size l.numbers)
