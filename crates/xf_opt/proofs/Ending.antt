-- What the ends of calls say of the stages.
use Rattle.std.proofs.Common.{◌≡◌, ℕ, List, [], Option, false, inl, inr}
use Rattle.xf_span.specs.declared.code.Code.TheVariants.{N1}
use Rattle.xf_span.specs.declared.fault.Fault.{Fault}
use Rattle.xf_span.specs.declared.fault.TextFault.{TextFault}
use Rattle.xf_span.specs.declared.fault.TextFault.TheVariants as text_fault
use Rattle.xf_span.specs.Fault.{fault_at}
use Rattle.xf_span.specs.Place.{first_place}
use Rattle.xf_ir.specs.declared.op.Module.{Module}
use Rattle.xf_payload.specs.Payload.{IsPayload, IsRefused}
use Rattle.xf_opt.specs.Form.{is_first_form}
use Rattle.xf_opt.specs.Words.{Asked, run}
use Rattle.xf_opt.specs.Stages.{Stage, End, well, at, anywhere, Judges}
use Rattle.xf_opt.specs.Stages as stage
use Rattle.xf_opt.specs.Owes.{Finishes, WritesPrefix, Writes}
use Rattle.xf_opt.specs.Refusals.{RefusesBy}
use Rattle.xf_opt.specs.declared.journal.Entry.{Entry}

-- ---- stages

-- for want of memory, before anything was written
pub judged_nowhere : (stage : Stage) (Holds Cause Untouched : Type 0) → Untouched
    → Judges stage anywhere Holds Cause Untouched
judged_nowhere stage Holds Cause Untouched u = record { past = λ p. absurd p; ended = λ p. absurd p; written = inl u }

-- the same, said in other words
pub judged_alike : (stage : Stage) (end : End) (Holds Holds' Cause Cause' Untouched : Type 0) → (Holds → Holds')
    → (Cause → Cause') → Judges stage end Holds Cause Untouched → Judges stage end Holds' Cause' Untouched
judged_alike stage end Holds Holds' Cause Cause' Untouched f g j = record {
  past = λ p. f (j.past p);
  ended = λ p. g (j.ended p);
  written = elim j.written [ inl u ↦ inl u | inr h ↦ inr (f h) ];
}

-- ---- what was written

-- all of the text
pub wrote_all : (asked : Asked) (file : List ℕ) (journal : List Entry) (old new : Option (List ℕ))
    → Finishes asked file journal old new → Writes well journal old new asked file
wrote_all asked file journal old new w = record { done = λ p. w; cut = λ p. absurd p; memory = λ p. absurd p }

-- a prefix, before a write failed
pub wrote_prefix : (asked : Asked) (file : List ℕ) (journal : List Entry) (old new : Option (List ℕ))
    → WritesPrefix asked file journal old new → Writes (at stage.write) journal old new asked file
wrote_prefix asked file journal old new w = record { done = λ p. absurd p; cut = λ p. w; memory = λ p. absurd p }

-- at most a prefix, before memory was refused
pub wrote_some : (asked : Asked) (file : List ℕ) (journal : List Entry) (old new : Option (List ℕ))
    → WritesPrefix asked file journal old new → Writes anywhere journal old new asked file
wrote_some asked file journal old new w =
    record { done = λ p. absurd p; cut = λ p. absurd p; memory = λ p. inr (journal, w) }

-- ---- payloads that are refused

-- a run refuses what every command refuses
pub refused_alike : (file : List ℕ) (f : TextFault) → IsRefused file f → RefusesBy (run [] []) file f
refused_alike file (text_fault.At f) e = inl e
refused_alike file text_fault.NoMemory e = tt

-- and a payload that is not of its form
pub outside_refused : (file : List ℕ) (m : Module) (f : Fault) → f ≡ fault_at N1 first_place → IsPayload file m
    → is_first_form m ≡ false → RefusesBy (run [] []) file (text_fault.At f)
outside_refused file m f e h n = inr (record { payload = m; holds = h; form = n; is = e })
