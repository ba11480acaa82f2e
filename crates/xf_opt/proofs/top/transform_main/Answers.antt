use Rattle.std.proofs.Common.{ℕ, List, Option}
use Rattle.xf_host.specs.Count.{HasRisen}
use Rattle.xf_span.specs.declared.fault.Fault.{Fault}
use Rattle.xf_opt.specs.Words.{Asked}
use Rattle.xf_opt.specs.Paths.{OnScript, OnPayload}
use Rattle.xf_opt.specs.Stages.{End, EndsAt, EndsBefore}
use Rattle.xf_opt.specs.Stages as stage
use Rattle.xf_opt.specs.Files.{JudgesScript, JudgesPayload}
use Rattle.xf_opt.specs.Owes.{Writes}
use Rattle.xf_opt.specs.Refusals.{asked_by}
use Rattle.xf_opt.proofs.Statuses.{status_known, fault_told, of_end, of_all, words_passed, words_understood, read_told}
use Rattle.xf_opt.proofs.Statuses.{end_told}
use Rattle.xf_opt.proofs.top.transform_main.Goals as goal

pub returns-in-Err-clause-known : goal.returns-in-Err-clause-known
returns-in-Err-clause-known g c = status_known c.in-Err.refusal c.status.result c.status.ensures

pub returns-in-Err-clause-words : goal.returns-in-Err-clause-words
returns-in-Err-clause-words g c =
    words_understood _ (asked_by c.in-Some.command)
    c.in-Err.refusal c.status.result c.in-Some.ensures c.status.ensures c.in-Err.ensures.past_words

pub returns-in-Err-clause-unread : goal.returns-in-Err-clause-unread
returns-in-Err-clause-unread g c = λ at_words.
    absurd (words_passed c.in-Err.refusal c.status.result c.status.ensures c.in-Err.ensures.past_words at_words)

pub returns-in-Err-clause-reads : goal.returns-in-Err-clause-reads
returns-in-Err-clause-reads g c =
    read_told _ (asked_by c.in-Some.command)
    _ _ c.in-Err.refusal c.status.result c.in-Some.ensures c.status.ensures c.in-Err.ensures.reads

pub returns-in-Err-clause-script : goal.returns-in-Err-clause-script
returns-in-Err-clause-script g c =
    of_all (λ (asked : Option Asked) (end : End) (fault : Option Fault).
    OnScript asked (g.F.Files.holds c.args.files.now)
    (JudgesScript end (g.S.Sink.written c.args.out.now) (g.S.Sink.written c.execute.new.out)))
    _ (asked_by c.in-Some.command) c.in-Err.refusal c.status.result c.fault-in-Err.result c.in-Some.ensures
    c.status.ensures c.fault-in-Err.ensures c.in-Err.ensures.script

pub returns-in-Err-clause-payload : goal.returns-in-Err-clause-payload
returns-in-Err-clause-payload g c =
    of_all (λ (asked : Option Asked) (end : End) (fault : Option Fault).
    OnPayload asked (g.F.Files.holds c.args.files.now)
    (JudgesPayload end fault (g.S.Sink.written c.args.out.now) (g.S.Sink.written c.execute.new.out)))
    _ (asked_by c.in-Some.command) c.in-Err.refusal c.status.result c.fault-in-Err.result c.in-Some.ensures
    c.status.ensures c.fault-in-Err.ensures c.in-Err.ensures.payload

pub returns-in-Err-clause-text : goal.returns-in-Err-clause-text
returns-in-Err-clause-text g c =
    of_all (λ (asked : Option Asked) (end : End) (fault : Option Fault).
    OnPayload asked (g.F.Files.holds c.args.files.now)
    (Writes end c.execute.new.journal (g.S.Sink.written c.args.out.now) (g.S.Sink.written c.execute.new.out)))
    _ (asked_by c.in-Some.command) c.in-Err.refusal c.status.result c.fault-in-Err.result c.in-Some.ensures
    c.status.ensures c.fault-in-Err.ensures c.in-Err.ensures.text

pub returns-in-Err-clause-fault : goal.returns-in-Err-clause-fault
returns-in-Err-clause-fault g c =
    fault_told c.in-Err.refusal c.status.result c.fault-in-Err.result c.status.ensures c.fault-in-Err.ensures

pub returns-in-Err-clause-told : goal.returns-in-Err-clause-told
returns-in-Err-clause-told g c =
    end_told _ (asked_by c.in-Some.command)
    c.script.result.now c.payload.result.now c.path-path.result.now _ _ c.in-Err.refusal
    c.status.result c.fault-in-Err.result c.tell-told-in-Err.result _ _ _ _
    c.in-Some.ensures c.status.ensures c.fault-in-Err.ensures c.script.ensures c.payload.ensures c.path-path.ensures
    c.in-Err.ensures.file c.in-Err.ensures.reads c.tell-told-in-Err.ensures
