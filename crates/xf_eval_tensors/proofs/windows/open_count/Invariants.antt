use Rattle.std.proofs.Common.{◌≡◌, drop, ◌+◌, ◌≤◌}
use Rattle.xf_ir.specs.RuleTypes.{open_count}
use Rattle.xf_eval_tensors.proofs.windows.open_count.Given as goal

-- what is counted and what is left are the whole
abbrev pub invariant-loop-index : goal.invariant-loop-index
invariant-loop-index l = record {
  within : l.count ≤ l.index-index;
  whole : l.count + open_count (drop l.index-index l.indices) ≡ open_count l.indices;
}
