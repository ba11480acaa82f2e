use Rattle.std.proofs.Common.{◌≡◌, ◌++◌, drop}
use Rattle.std.specs.List.{flat_map}
use Rattle.xf_printed.specs.Words.{dim_text}
use Rattle.xf_print_base.proofs.types.write_dims.Given as goal

abbrev pub invariant-loop-dim : goal.invariant-loop-dim
invariant-loop-dim l =
    l.line.items ++ flat_map dim_text (drop l.dim-index l.dims) ≡ l.fn.line.items ++ flat_map dim_text l.dims
