use Rattle.xf_opt.specs.Words.{run}
use Rattle.xf_opt.proofs.Ending.{wrote_all, wrote_prefix, wrote_some}
use Rattle.xf_opt.proofs.Headline.{whole_is, prefix_is, of_form, root_named}
use Rattle.xf_opt.proofs.schedule.carry_out.Goals as goal

pub erase_dead-requires-clause-root : goal.erase_dead-requires-clause-root
erase_dead-requires-clause-root g c = root_named c.args.payload.now c.in-Ok.module c.in-Ok.ensures.ok

pub erase_dead-requires-clause-form : goal.erase_dead-requires-clause-form
erase_dead-requires-clause-form g c = of_form c.args.payload.now c.in-Ok.module c.in-Ok.ensures.ok

pub returns-in-Ok-print-clause-text : goal.returns-in-Ok-print-clause-text
returns-in-Ok-print-clause-text g c = λ s p.
    wrote_all (run s p) _ c.erase_dead.new.journal _ _
    (whole_is c.args.payload.now s p c.erase_dead.new.journal c.in-Ok.module c.erase_dead.new.m _ _ c.in-Ok.ensures.ok
    c.in-Ok-erase_dead.ensures.runs c.in-Ok-erase_dead.ensures.few c.in-Ok-erase_dead.ensures.keeps
    c.in-Ok-erase_dead.ensures.form c.in-Ok-print.ensures.text)

pub returns-in-Err-Failed-clause-text : goal.returns-in-Err-Failed-clause-text
returns-in-Err-Failed-clause-text g c = λ s p.
    wrote_prefix (run s p) _ c.erase_dead.new.journal _ _
    (prefix_is c.args.payload.now s p c.erase_dead.new.journal c.in-Ok.module c.erase_dead.new.m _ _ c.in-Ok.ensures.ok
    c.in-Ok-erase_dead.ensures.runs c.in-Ok-erase_dead.ensures.few c.in-Ok-erase_dead.ensures.keeps
    c.in-Ok-erase_dead.ensures.form c.in-Err-Failed.ensures.text)

pub returns-clause-text : goal.returns-clause-text
returns-clause-text g c = λ s p.
    wrote_some (run s p) _ c.erase_dead.new.journal _ _
    (prefix_is c.args.payload.now s p c.erase_dead.new.journal c.in-Ok.module c.erase_dead.new.m _ _ c.in-Ok.ensures.ok
    c.in-Ok-erase_dead.ensures.runs c.in-Ok-erase_dead.ensures.few c.in-Ok-erase_dead.ensures.keeps
    c.in-Ok-erase_dead.ensures.form c.in-Err-NoMemory-print.ensures.text)
