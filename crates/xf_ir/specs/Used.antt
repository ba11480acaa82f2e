-- The operations whose results are used, and the first operation that passes a test.
use Rattle.std.specs.Prelude.{List, Option, Some, None, Bool, not, ◌&&◌, ◌||◌, fold, if◌then◌else◌}
use Rattle.std.specs.Ordering.{nat_cmp}
use Rattle.std.specs.FinSet as set
use Rattle.xf_ir.specs.declared.name.OpName.{OpName}
use Rattle.xf_ir.specs.declared.name.ValueName.{ValueName}
use Rattle.xf_ir.specs.declared.name.ValueName.TheVariants.{Result, Arg, Free}
use Rattle.xf_ir.specs.Tree.{Ops, no_ops, op, Regions, no_regions, region, Tree}
use Rattle.xf_ir.specs.Walk.{first_of}
use Rattle.xf_ir.specs.Kinds.{is_container, is_terminator}

-- with the operation of which the value is a result
abbrev pub with_use : set.FinSet nat_cmp → ValueName → set.FinSet nat_cmp
with_use s (Result o num) = set.insert s o.0
with_use s (Arg o r num) = s
with_use s (Free num) = s

abbrev pub with_uses : set.FinSet nat_cmp → List ValueName → set.FinSet nat_cmp
with_uses s vs = fold with_use s vs

-- no module, function or terminator, and none of the operations that are used
abbrev pub goes_unused : set.FinSet nat_cmp → Tree → Bool
goes_unused used t = not (is_container t.kind || is_terminator t.kind) && not (set.contains used t.name.0)

-- the name of the first operation that passes, in preorder
abbrev mutual
  pub ops_first : (Tree → Bool) → Ops → Option OpName
  ops_first p no_ops = None
  ops_first p (op n k ds os ts rs rest) =
      first_of
      (if p (record { name = n; kind = k; attrs = ds; operands = os; results = ts; regions = rs })
      then Some n
      else regions_first p rs)
      (ops_first p rest)

  pub regions_first : (Tree → Bool) → Regions → Option OpName
  regions_first p no_regions = None
  regions_first p (region args ops rest) = first_of (ops_first p ops) (regions_first p rest)
