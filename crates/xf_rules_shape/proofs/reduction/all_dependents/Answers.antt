use Rattle.std.proofs.Common.{drop}
use Rattle.xf_ir.specs.View.{ops_of}
use Rattle.xf_rules_shape.specs.Dependents.{out_value}
use Rattle.xf_rules_shape.proofs.DependentLemmas.{stopped}
use Rattle.xf_rules_shape.proofs.reduction.all_dependents.Goals as goal

pub returns-then-not-branch : goal.returns-then-not-branch
returns-then-not-branch c =
    stopped (out_value c.args.out) (ops_of (drop c.loop-op._op-index c.args.ops.now))
    (ops_of c.args.ops.now) c.loop-op.dependent c.add_dependents.new.dependent _ c.in_ok-add_dependents.field-0
    c.in_ok-add_dependents.ensures.dependents c.in_ok-add_dependents.ensures.none c.if-not-branch.true
    c.loop-op.invariant
