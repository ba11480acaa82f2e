use Rattle.std.proofs.Common.{◌≡◌, drop}
use Rattle.std.specs.FinSet as set
use Rattle.xf_ir.specs.View.{ops_of}
use Rattle.xf_rules_shape.specs.Dependents.{out_value, all_with}
use Rattle.xf_rules_shape.proofs.reduction.all_dependents.Given as goal

-- what is there with the passes that are left is the whole
abbrev pub invariant-loop-op : goal.invariant-loop-op
invariant-loop-op l = all_with (out_value l.out) (ops_of (drop l._op-index l.ops)) (ops_of l.ops) l.dependent
    ≡ all_with (out_value l.out) (ops_of l.ops) (ops_of l.ops) set.empty
