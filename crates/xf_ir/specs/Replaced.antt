-- An operation replaced, at its place, by others.
use Rattle.std.specs.Prelude.{ℕ, List, length, map, Option, Some, None, slice_get, unwrap_or}
use Rattle.xf_ir.specs.declared.name.ValueName.{ValueName}
use Rattle.xf_ir.specs.Tree.{Ops, no_ops, op, Regions, no_regions, region}
use Rattle.xf_ir.specs.Places.{Numbering, results_of}

-- operands moved to other values
abbrev mutual
  pub ops_moved : (ValueName → ValueName) → Ops → Ops
  ops_moved s no_ops = no_ops
  ops_moved s (op n k ds os ts rs rest) = op n k ds (map s os) ts (regions_moved s rs) (ops_moved s rest)

  pub regions_moved : (ValueName → ValueName) → Regions → Regions
  regions_moved s no_regions = no_regions
  regions_moved s (region args ops rest) = region args (ops_moved s ops) (regions_moved s rest)

abbrev pub append : Ops → Ops → Ops
append no_ops more = more
append (op n k ds os ts rs rest) more = op n k ds os ts rs (append rest more)

abbrev pub item_of : Option ℕ → List ValueName → ValueName → ValueName
item_of None by v = v
item_of (Some i) by v = unwrap_or (slice_get by i) v

-- the value that stands for another, where those that a place defines are replaced
abbrev pub in_place_of : Numbering → List ValueName → ValueName → ValueName
in_place_of p by v = item_of (p v) by v

-- other operations in the place of the first, and other values in the place of its results
abbrev pub replaced_by : Ops → List ValueName → Ops → Ops
replaced_by new by no_ops = no_ops
replaced_by new by (op n k ds os ts rs rest) = append new (ops_moved (in_place_of (results_of n (length ts)) by) rest)
