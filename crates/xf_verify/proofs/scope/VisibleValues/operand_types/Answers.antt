use Rattle.std.specs.Prelude.{map}
use Rattle.xf_ir.specs.declared.name.ValueName.TheVariants.{Result}
use Rattle.xf_verify.specs.Visible.{types_in}
use Rattle.xf_verify.proofs.Defining.{types_on}
use Rattle.xf_verify.proofs.scope.VisibleValues.operand_types.Goals as goal

pub loop-value-preserved : goal.loop-value-preserved
loop-value-preserved c =
    let see = types_in c.args.self.now in
    types_on see c.args.values.now c.loop-value.value-index (Result (record { 0 = 0 }) 0)
    c.loop-value-test.true c.loop-value.types.items c.push.new.self.items c.type_of.result
    (map see c.args.values.now) c.in_ok-push.ensures.items c.type_of.ensures c.loop-value.invariant
