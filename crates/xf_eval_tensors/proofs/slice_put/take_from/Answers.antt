use Rattle.std.proofs.Common.{◌∙◌, arith}
use Rattle.std.proofs.lemmas.List.{length-set}
use Rattle.xf_eval_tensors.proofs.PutLemmas.{taken_more}
use Rattle.xf_eval_tensors.proofs.slice_put.take_from.Goals as goal

pub loop-at-preserved : goal.loop-at-preserved
loop-at-preserved c = (
  taken_more c.loop-at.local c.args.spans.now c.args.point.now c.loop-at.at c.saturating_sub.result _
      (omega (arith, c.loop-at.invariant.1)) c.loop-at-test.true (omega arith) c.loop-at.invariant.0
      c.saturating_sub.ensures,
  length-set c.loop-at.local c.loop-at.at c.saturating_sub.result ∙ c.loop-at.invariant.1,
)
