use Rattle.std.proofs.Common.{◌≡◌, drop}
use Rattle.xf_ir.specs.View.{ops_of, regions_of}
use Rattle.xf_print_base.specs.Index.{names_of}
use Rattle.xf_printed.specs.Names.{with_ops, with_regions}
use Rattle.xf_print_base.proofs.index.Index.+number.Given as goal

abbrev pub invariant-add_ops-loop-op : goal.invariant-add_ops-loop-op
invariant-add_ops-loop-op l =
    with_ops (names_of l.self) (ops_of (drop l.op-index l.ops)) ≡ with_ops (names_of l.fn.self) (ops_of l.ops)

abbrev pub invariant-add_regions-loop-block : goal.invariant-add_regions-loop-block
invariant-add_regions-loop-block l =
    with_regions (names_of l.self) (regions_of (drop l.block-index l.regions))
    ≡ with_regions (names_of l.fn.self) (regions_of l.regions)
