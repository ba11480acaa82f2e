use Rattle.std.proofs.Common.{◌≡◌, drop, ◌+◌, ◌≤◌}
use Rattle.xf_ir.specs.Types.{dynamic_count}
use Rattle.xf_rules_shape.proofs.tensor_rows.dynamic_count.Given as goal

-- what is counted and what is left are the whole
abbrev pub invariant-loop-dim : goal.invariant-loop-dim
invariant-loop-dim l = record {
  within : l.count ≤ l.dim-index;
  whole : l.count + dynamic_count (drop l.dim-index l.dims) ≡ dynamic_count l.dims;
}
