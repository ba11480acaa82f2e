use Rattle.std.proofs.Common.{◌∷◌, [], ap}
use Rattle.xf_type.specs.declared.payload_type.PayloadType.TheVariants.{Scalar}
use Rattle.xf_verify.proofs.Defining.{last_is}
use Rattle.xf_verify.proofs.stand.element_given.Goals as goal

pub returns-in-Some-out : goal.returns-in-Some-out
returns-in-Some-out c = rw (
  last_is c.args.types.now c.in-Some.out.now c.in-Some.ensures.value,
  c.in-Some-out.is,
) (ap (λ w. Scalar w ∷ []) c.element_of.ensures)

pub returns-in-None-out : goal.returns-in-None-out
returns-in-None-out c = rw (last_is c.args.types.now c.in-Some.out.now c.in-Some.ensures.value, c.in-None-out.is)
