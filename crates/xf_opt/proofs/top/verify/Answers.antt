use Rattle.std.proofs.Common.{List, ℕ, [], subst}
use Rattle.xf_opt.specs.Files.{JudgesPayload}
use Rattle.xf_opt.specs.Owes.{Writes}
use Rattle.xf_opt.specs.Refusals.{end_of, fault_in}
use Rattle.xf_opt.specs.Words.{verify}
use Rattle.xf_opt.proofs.Files.{payload_told, text_told}
use Rattle.xf_opt.proofs.Statuses.{none_failed, words_read}
use Rattle.xf_opt.proofs.top.verify.Goals as goal

pub returns-clause-past_words : goal.returns-clause-past_words
returns-clause-past_words g c = words_read (end_of c.verify_payload.result) c.verify_payload.ensures.past_reads

pub returns-clause-reads : goal.returns-clause-reads
returns-clause-reads g c = none_failed _ _ _ c.verify_payload.result c.verify_payload.ensures.past_reads

pub returns-clause-payload : goal.returns-clause-payload
returns-clause-payload g c =
    payload_told _ c.in-Ok.bytes.items (end_of c.verify_payload.result) (fault_in c.verify_payload.result) _ _
    (verify c.args.payload.now) c.in-Ok.ensures.bytes
    (subst (λ (b : List ℕ). JudgesPayload (end_of c.verify_payload.result) (fault_in c.verify_payload.result)
    (g.S.Sink.written c.args.out.now) (g.S.Sink.written c.verify_payload.new.out) (verify c.args.payload.now) b)
    c.as_slice.ensures.value (c.verify_payload.ensures.payload c.args.payload.now))

pub returns-clause-text : goal.returns-clause-text
returns-clause-text g c =
    text_told _ c.in-Ok.bytes.items (end_of c.verify_payload.result) [] _ _
    (verify c.args.payload.now) c.in-Ok.ensures.bytes
    (subst (λ (b : List ℕ). Writes (end_of c.verify_payload.result) [] (g.S.Sink.written c.args.out.now)
    (g.S.Sink.written c.verify_payload.new.out) (verify c.args.payload.now) b)
    c.as_slice.ensures.value (c.verify_payload.ensures.text c.args.payload.now))
