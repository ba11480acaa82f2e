use Rattle.std.proofs.Common.{refl}
use Rattle.xf_printed.specs.PrintedForm.{printed_form}
use Rattle.xf_opt.specs.Words.{print}
use Rattle.xf_opt.proofs.Ending.{wrote_all, wrote_prefix, wrote_some}
use Rattle.xf_opt.proofs.telling.print_payload.Goals as goal

pub returns-in-Ok-print-clause-text : goal.returns-in-Ok-print-clause-text
returns-in-Ok-print-clause-text g c = λ p.
    wrote_all (print p) _ _ _ _ (
      printed_form c.in-Ok.module,
      (record { payload = c.in-Ok.module; holds = c.in-Ok.ensures.ok; is = refl }, c.in-Ok-print.ensures.text),
    )

pub returns-in-Err-Failed-clause-text : goal.returns-in-Err-Failed-clause-text
returns-in-Err-Failed-clause-text g c = λ p.
    wrote_prefix (print p) _ _ _ _ (
      printed_form c.in-Ok.module,
      (record { payload = c.in-Ok.module; holds = c.in-Ok.ensures.ok; is = refl }, c.in-Err-Failed.ensures.text),
    )

pub returns-clause-text : goal.returns-clause-text
returns-clause-text g c = λ p.
    wrote_some (print p) _ _ _ _ (
      printed_form c.in-Ok.module,
      (
        record { payload = c.in-Ok.module; holds = c.in-Ok.ensures.ok; is = refl },
        c.in-Err-NoMemory-print.ensures.text,
      ),
    )
