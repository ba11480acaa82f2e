use Rattle.std.proofs.Common.{Err, ap, List, ℕ, Option, subst}
use Rattle.xf_opt.specs.Files.{JudgesScript, JudgesPayload}
use Rattle.xf_opt.specs.Owes.{Writes}
use Rattle.xf_opt.specs.Refusals.{end_of, fault_in}
use Rattle.xf_opt.specs.Words.{run}
use Rattle.xf_opt.proofs.Files.{rises_later, count_kept, IsRead, script_told, payload_told, unread_told, text_told}
use Rattle.xf_opt.proofs.Statuses.{run_has, none_failed, words_read}
use Rattle.xf_opt.proofs.top.run.Goals as goal

pub returns-in-Err-Failed-read_file-clause-reads : goal.returns-in-Err-Failed-read_file-clause-reads
returns-in-Err-Failed-read_file-clause-reads g c = λ at_reads.
    rises_later _ (g.F.Files.faults c.read_file.new.files c.args.payload.now) _
    (count_kept (g.F.Files.faults c.args.files.now) (g.F.Files.faults c.read_file.new.files)
    c.args.script.now c.args.payload.now c.in-Ok.ensures.grows c.in-Ok.ensures.others)
    (c.in-Err-Failed-read_file.ensures.cause (ap Err c.in-Err-Failed-read_file.field-0-is))

pub returns-in-Err-NoMemory-read_file-clause-payload : goal.returns-in-Err-NoMemory-read_file-clause-payload
returns-in-Err-NoMemory-read_file-clause-payload g c =
    unread_told (g.F.Files.holds c.args.files.now c.args.payload.now) _ _ (run c.args.script.now c.args.payload.now)

pub returns-clause-past_words : goal.returns-clause-past_words
returns-clause-past_words g c = words_read (end_of c.carry_out.result) c.carry_out.ensures.past_reads

pub returns-clause-file : goal.returns-clause-file
returns-clause-file g c = run_has c.args.script.now c.args.payload.now c.carry_out.result

pub returns-clause-reads : goal.returns-clause-reads
returns-clause-reads g c = none_failed _ _ _ c.carry_out.result c.carry_out.ensures.past_reads

pub returns-clause-script : goal.returns-clause-script
returns-clause-script g c =
    script_told _ c.in-Ok.bytes.items (end_of c.carry_out.result) _ _ c.in-Ok.ensures.bytes
    (subst (λ (b : List ℕ). JudgesScript (end_of c.carry_out.result) (g.S.Sink.written c.args.out.now)
    (g.S.Sink.written c.carry_out.new.out) b)
    c.as_slice.ensures.value c.carry_out.ensures.script)

pub returns-clause-payload : goal.returns-clause-payload
returns-clause-payload g c =
    payload_told _ c.in-Ok-read_file.bytes.items (end_of c.carry_out.result) (fault_in c.carry_out.result) _ _
    (run c.args.script.now c.args.payload.now)
    (subst (λ (o : Option (List ℕ)). IsRead o c.in-Ok-read_file.bytes.items)
    (c.in-Ok.ensures.told c.args.payload.now) c.in-Ok-read_file.ensures.bytes)
    (subst (λ (b : List ℕ). JudgesPayload (end_of c.carry_out.result) (fault_in c.carry_out.result) (g.S.Sink.written
    c.args.out.now) (g.S.Sink.written c.carry_out.new.out) (run c.args.script.now c.args.payload.now) b)
    c.as_slice-2.ensures.value (c.carry_out.ensures.payload c.args.script.now c.args.payload.now))

pub returns-clause-text : goal.returns-clause-text
returns-clause-text g c =
    text_told _ c.in-Ok-read_file.bytes.items (end_of c.carry_out.result) c.carry_out.new.journal _ _
    (run c.args.script.now c.args.payload.now)
    (subst (λ (o : Option (List ℕ)). IsRead o c.in-Ok-read_file.bytes.items)
    (c.in-Ok.ensures.told c.args.payload.now) c.in-Ok-read_file.ensures.bytes)
    (subst (λ (b : List ℕ). Writes (end_of c.carry_out.result) c.carry_out.new.journal (g.S.Sink.written c.args.out.now)
    (g.S.Sink.written c.carry_out.new.out) (run c.args.script.now c.args.payload.now) b)
    c.as_slice-2.ensures.value (c.carry_out.ensures.text c.args.script.now c.args.payload.now))
