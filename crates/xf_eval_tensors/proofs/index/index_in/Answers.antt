use Rattle.std.proofs.Common.{◌∙◌, sym, arith}
use Rattle.xf_eval_tensors.proofs.IndexLemmas.{point_lengths, point_stop}
use Rattle.xf_eval_tensors.proofs.index.index_in.Goals as goal

pub returns-then-sizes-args : goal.returns-then-sizes-args
returns-then-sizes-args c = sym (point_lengths c.args.sizes.now c.args.args.now c.if-sizes-args.true)

pub returns-in-None : goal.returns-in-None
returns-in-None c =
    sym (point_stop c.loop-at.index c.args.sizes.now c.args.args.now c.loop-at.at c.index-args-at.result
    c.loop-at-test.true (omega arith) c.index-args-at.is (sym c.in-None.ensures)) ∙ c.loop-at.invariant
