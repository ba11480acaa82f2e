use Rattle.std.proofs.Common.{arith}
use Rattle.std.proofs.lemmas.Grind.{common_steps}
use Rattle.xf_eval_tensors.proofs.DenseLemmas.{dense_more}
use Rattle.xf_eval_tensors.proofs.constant.elements.Goals as goal

pub loop-at-preserved : goal.loop-at-preserved
loop-at-preserved c =
    let e = dense_more c.args.numbers.now c.loop-at.at in
    grind (arith, common_steps, e)
