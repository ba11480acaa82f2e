use Rattle.std.proofs.Common.{subst, refl, ◌∙◌, ap, Err}
use Rattle.xf_sem.specs.Tensors.{dense_given}
use Rattle.xf_args.proofs.DenseLemmas.{dense_is, IsGiven}
use Rattle.xf_args.proofs.constant.tensor_of.Goals as goal

pub unreachable-requires : goal.unreachable-requires
unreachable-requires c =
    let g = dense_is (record { 0 = 0 }) c.args.shape.now c.args.numbers.now c.as_slice.result.now _ _ c.dense.result
    (c.as_slice.ensures ∙ c.requires.types) c.requires.fits c.requires.range refl c.dense.ensures in
    subst (IsGiven (dense_given c.args.shape.now c.args.numbers.now))
    (c.in-Err-Undefined.is ∙ ap Err c.in-Err-Undefined.field-0-is) g

pub unreachable-requires-in-Err-Budget : goal.unreachable-requires-in-Err-Budget
unreachable-requires-in-Err-Budget c =
    let g = dense_is (record { 0 = 0 }) c.args.shape.now c.args.numbers.now c.as_slice.result.now _ _ c.dense.result
    (c.as_slice.ensures ∙ c.requires.types) c.requires.fits c.requires.range refl c.dense.ensures in
    subst (IsGiven (dense_given c.args.shape.now c.args.numbers.now))
    (c.in-Err-Budget.is ∙ ap Err c.in-Err-Budget.field-0-is) g
