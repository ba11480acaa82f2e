use Rattle.std.proofs.Common.{arith}
use Rattle.std.proofs.lemmas.Grind.{common_steps}
use Rattle.std.proofs.lemmas.Result.{err_from_is_err_and}
use Rattle.xf_print.proofs.Writes.{going_ends, going_fails, going_on}
use Rattle.xf_results.proofs.LineLemmas.{next_line, no_line}
use Rattle.xf_results.proofs.line.write_results.Goals as goal

pub returns-in_err-write_result-clause-text : goal.returns-in_err-write_result-clause-text
returns-in_err-write_result-clause-text g c =
    let p = err_from_is_err_and c.from_residual.result c.from_residual.ensures.1 in
    rw p.1 (going_fails _ _ (next_line c.args.values.now c.loop-value.value-index c.value-item.result
    c.loop-value-test.true c.value-item.is) c.loop-value.invariant.going c.in_err-write_result.ensures.text)

pub loop-value-preserved : goal.loop-value-preserved
loop-value-preserved g c = record {
  going =
      going_on _ (next_line c.args.values.now c.loop-value.value-index c.value-item.result
      c.loop-value-test.true c.value-item.is) c.loop-value.invariant.going c.in_ok-write_result.ensures.text;
  grows = grind (arith, common_steps);
}

pub returns-clause-text : goal.returns-clause-text
returns-clause-text g c =
    going_ends (no_line c.args.values.now c.loop-value.value-index c.loop-value-test.false) c.loop-value.invariant.going
