use Rattle.std.proofs.Common.{◌≡◌, drop}
use Rattle.std.specs.Prelude.{false}
use Rattle.xf_ir.specs.View.{ops_of}
use Rattle.xf_rules_shape.specs.Dependents.{out_value, with_dependents}
use Rattle.xf_rules_shape.proofs.reduction.add_dependents.Given as goal

-- what is there with what is left is the whole, and nothing came where it does not grow
abbrev pub invariant-loop-op : goal.invariant-loop-op
invariant-loop-op l =
    record {
      whole : with_dependents (out_value l.out) (ops_of (drop l.op-index l.ops)) l.dependent ≡ with_dependents
          (out_value l.out) (ops_of l.ops) l.fn.dependent;
      none : l.grows ≡ false → l.dependent ≡ l.fn.dependent;
    }
