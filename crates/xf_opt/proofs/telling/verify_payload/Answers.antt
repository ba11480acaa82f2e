use Rattle.std.proofs.Common.{refl, codes}
use Rattle.xf_opt.specs.Words.{verify}
use Rattle.xf_opt.proofs.Ending.{wrote_all, wrote_prefix, wrote_some}
use Rattle.xf_opt.proofs.telling.verify_payload.Goals as goal

pub returns-in-Ok-write-clause-text : goal.returns-in-Ok-write-clause-text
returns-in-Ok-write-clause-text g c = λ p.
    wrote_all (verify p) _ _ _ _ (
      codes "ok\n",
      (record { payload = c.in-Ok.module; holds = c.in-Ok.ensures.ok; is = refl }, c.in-Ok-write.ensures.text),
    )

pub returns-in-Err-Failed-clause-text : goal.returns-in-Err-Failed-clause-text
returns-in-Err-Failed-clause-text g c = λ p.
    wrote_prefix (verify p) _ _ _ _ (
      codes "ok\n",
      (record { payload = c.in-Ok.module; holds = c.in-Ok.ensures.ok; is = refl }, c.in-Err-Failed.ensures.text),
    )

pub returns-clause-text : goal.returns-clause-text
returns-clause-text g c = λ p.
    wrote_some (verify p) _ _ _ _ (
      codes "ok\n",
      (
        record { payload = c.in-Ok.module; holds = c.in-Ok.ensures.ok; is = refl },
        c.in-Err-NoMemory-write.ensures.text,
      ),
    )
