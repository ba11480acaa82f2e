use Rattle.std.proofs.Common.{arith}
use Rattle.std.proofs.lemmas.Grind.{common_steps}
use Rattle.std.proofs.lemmas.Result.{err_from_is_err_and}
use Rattle.xf_print.proofs.Fed.{functions_one}
use Rattle.xf_print.proofs.Writes.{going_ends, going_fails, going_on, next_fed, none_fed}
use Rattle.xf_print.proofs.printer.print_functions.Goals as goal

pub returns-in_err-print_function-clause-text : goal.returns-in_err-print_function-clause-text
returns-in_err-print_function-clause-text g c =
    let p = err_from_is_err_and c.from_residual.result c.from_residual.ensures.1 in
    rw p.1 (going_fails _ _ (next_fed functions_one c.args.functions.now c.loop-function.function-index
    c.function-item.result c.loop-function-test.true c.function-item.is) c.loop-function.invariant.going
    c.in_err-print_function.ensures.text)

pub loop-function-preserved : goal.loop-function-preserved
loop-function-preserved g c = record {
  going =
      going_on _ (next_fed functions_one c.args.functions.now c.loop-function.function-index c.function-item.result
      c.loop-function-test.true c.function-item.is) c.loop-function.invariant.going c.in_ok-print_function.ensures.text;
  grows = grind (arith, common_steps);
}

pub returns-clause-text : goal.returns-clause-text
returns-clause-text g c =
    going_ends (none_fed functions_one c.args.functions.now c.loop-function.function-index c.loop-function-test.false)
    c.loop-function.invariant.going
