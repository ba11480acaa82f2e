-- What the refusal of a call says of its status, its fault and its line.
use Rattle.std.proofs.Common.{◌≡◌, ◌≢◌, ℕ, List, [], Option, Some, None, Result, Ok, Err, true, false, refl, sym, ap}
use Rattle.std.proofs.Common.{subst, inl, inr, ◌∙◌, ◌↔◌, arith}
use Rattle.std.specs.Prelude.{IfErr, IsNone}
use Rattle.xf_span.specs.declared.code.Code.TheVariants as code
use Rattle.xf_span.specs.declared.fault.Fault.{Fault}
use Rattle.xf_span.specs.Fault.{plain_fault}
use Rattle.xf_span.specs.Line.{line_of}
use Rattle.xf_opt.specs.declared.outcome.File.{File}
use Rattle.xf_opt.specs.declared.outcome.File.TheVariants as file
use Rattle.xf_opt.specs.declared.outcome.Refusal.{Refusal}
use Rattle.xf_opt.specs.declared.outcome.Refusal.TheVariants as because
use Rattle.xf_opt.specs.declared.outcome.Told.{Told}
use Rattle.xf_opt.specs.Words.{Asked, run, verify, print, script_of, payload_of}
use Rattle.xf_opt.specs.Paths.{IsFaulty, HasReadFault}
use Rattle.xf_opt.specs.Stages.{End, well, at, anywhere, EndsAt, EndsBefore}
use Rattle.xf_opt.specs.Stages as stage
use Rattle.xf_opt.specs.Statuses.{IsStatus, ending, FaultIs, IsTold}
use Rattle.xf_opt.specs.Refusals.{status_of, fault_of, file_of, stage_of, end_of, path_or_none, path_of, HasPath}
use Rattle.xf_opt.specs.Refusals.{HasFile, HasRisenAt, HasRisenOf}
use Rattle.xf_opt.specs.Told.{TellsLine, TellsFault, TellsEnd}

-- ---- the table of refusals agrees with that of statuses

record Agrees (r : Refusal) : Type 0 where
  known : IsStatus (status_of r)
  bad : status_of r ≢ 0
  fault : FaultIs (status_of r) (Some (fault_of r))

agrees : (r : Refusal) → Agrees r
agrees because.Words = record { known = refl; bad = λ e. omega arith; fault = refl }
agrees because.ScriptRead = record { known = refl; bad = λ e. omega arith; fault = refl }
agrees because.PayloadRead = record { known = refl; bad = λ e. omega arith; fault = refl }
agrees because.Script = record { known = refl; bad = λ e. omega arith; fault = refl }
agrees (because.Payload f) = record { known = refl; bad = λ e. omega arith; fault = refl }
agrees because.Write = record { known = refl; bad = λ e. omega arith; fault = refl }
agrees because.NoMemory = record { known = refl; bad = λ e. omega arith; fault = refl }

pub status_known : (r : Refusal) (status : ℕ) → status ≡ status_of r → IsStatus status
status_known r status e = subst IsStatus (sym e) (agrees r).known

pub fault_told : (r : Refusal) (status : ℕ) (fault : Fault) → status ≡ status_of r → fault ≡ fault_of r
    → FaultIs status (Some fault)
fault_told r status fault e q =
    subst (λ n. FaultIs n (Some fault)) (sym e)
    (subst (λ (f : Fault). FaultIs (status_of r) (Some f)) (sym q) (agrees r).fault)

-- ---- what a refusal says is what its status says

-- of the end
pub of_end : (P : End → Type 0) (r : Refusal) (status : ℕ) → status ≡ status_of r → P (stage_of r) → P (ending status)
of_end P r status e p = subst (λ n. P (ending n)) (sym e) p

-- of the command, the end and the fault
pub of_all : (P : Option Asked → End → Option Fault → Type 0) (command : Option Asked) (asked : Asked)
    (r : Refusal) (status : ℕ) (fault : Fault)
    → Some asked ≡ command → status ≡ status_of r → fault ≡ fault_of r → P (Some asked) (stage_of r) (Some (fault_of r))
    → P command (ending status) (Some fault)
of_all P command asked r status fault p e q h =
    subst (λ (c : Option Asked). P c (ending status) (Some fault)) p
    (subst (λ n. P (Some asked) (ending n) (Some fault)) (sym e)
    (subst (λ (f : Fault). P (Some asked) (stage_of r) (Some f)) (sym q) h))

-- the words were understood
at_words : (end : End) → EndsAt stage.words end → EndsBefore stage.reads end
at_words well e = e
at_words (at last) e = omega arith
at_words anywhere e = e

at_reads : (end : End) → EndsAt stage.reads end → EndsBefore stage.script end
at_reads well e = e
at_reads (at last) e = omega arith
at_reads anywhere e = e

-- past the reads the words were understood
pub words_read : (end : End) → (EndsBefore stage.script end → ⊥) → EndsBefore stage.reads end → ⊥
words_read well past e = e
words_read (at last) past e = past (omega arith)
words_read anywhere past e = e

pub words_passed : (r : Refusal) (status : ℕ) → status ≡ status_of r → (EndsBefore stage.reads (stage_of r) → ⊥)
    → EndsAt stage.words (ending status) → ⊥
words_passed r status e past w = past (at_words (stage_of r) (subst (λ n. EndsAt stage.words (ending n)) e w))

pub words_understood : (command : Option Asked) (asked : Asked) (r : Refusal) (status : ℕ)
    → Some asked ≡ command → status ≡ status_of r → (EndsBefore stage.reads (stage_of r) → ⊥)
    → EndsAt stage.words (ending status) ↔ IsNone command
words_understood command asked r status p e past = (
  λ w. absurd (words_passed r status e past w),
  subst (λ (c : Option Asked). IsNone c
      → EndsAt stage.words (ending status)) p (λ n. let never : true ≡ false = n in absurd (cc)),
)

-- ---- failed reads, and paths

faulty_script : (asked : Asked) (before after : List ℕ → ℕ) (path : Option (List ℕ)) → script_of asked ≡ path
    → HasRisenAt path before after → IsFaulty (Some asked) before after (path_or_none path)
faulty_script asked before after None e h = absurd h
faulty_script asked before after (Some path) e h = record { given = inl e; risen = h }

script_path : (asked : Asked) (path : Option (List ℕ)) → script_of asked ≡ path → HasPath path
    → script_of asked ≡ Some (path_or_none path)
script_path asked None e h = absurd h
script_path asked (Some path) e h = e

faulty_file : (asked : Asked) (before after : List ℕ → ℕ) (f : File) → HasRisenOf f asked before after
    → HasReadFault (Some asked) before after
faulty_file asked before after file.Neither h = absurd h
faulty_file asked before after file.Script h =
    (path_or_none (script_of asked), faulty_script asked before after (script_of asked) refl h)
faulty_file asked before after file.Payload h = (payload_of asked, record { given = inr refl; risen = h })

pub read_told : (command : Option Asked) (asked : Asked) (before after : List ℕ → ℕ) (r : Refusal) (status : ℕ)
    → Some asked ≡ command → status ≡ status_of r
    → (EndsAt stage.reads (stage_of r) → HasRisenOf (file_of r) asked before after) → EndsAt stage.reads (ending status)
    → HasReadFault command before after
read_told command asked before after r status p e reads at_stage =
    subst (λ (c : Option Asked). HasReadFault c before after) p
    (faulty_file asked before after (file_of r) (reads (subst (λ n. EndsAt stage.reads (ending n)) e at_stage)))

-- the path of the refusal is that of its status
is_told : (asked : Asked) (before after : List ℕ → ℕ) (r : Refusal)
    → HasFile (file_of r) asked → (EndsAt stage.reads (stage_of r) → HasRisenOf (file_of r) asked before after)
    → IsTold (Some asked) before after (status_of r) (path_of r (path_or_none (script_of asked)) (payload_of asked))
is_told asked before after because.Words h reads = refl
is_told asked before after because.ScriptRead h reads =
    faulty_script asked before after (script_of asked) refl (reads refl)
is_told asked before after because.PayloadRead h reads = record { given = inr refl; risen = reads refl }
is_told asked before after because.Script h reads = script_path asked (script_of asked) refl h
is_told asked before after (because.Payload f) h reads = refl
is_told asked before after because.Write h reads = refl
is_told asked before after because.NoMemory h reads = refl

has_both : (script payload : List ℕ) (f : File) → HasFile f (run script payload)
has_both script payload file.Neither = tt
has_both script payload file.Script = tt
has_both script payload file.Payload = tt

-- a run has both files
pub run_has : {T : Type 0} (script payload : List ℕ) (result : Result T Refusal)
    → IfErr result (λ r. HasFile (file_of r) (run script payload))
run_has script payload (Ok x) = tt
run_has script payload (Err r) = has_both script payload (file_of r)

-- past the reads none of them failed
pub none_failed : {T : Type 0} (asked : Asked) (before after : List ℕ → ℕ) (result : Result T Refusal)
    → (EndsBefore stage.script (end_of result) → ⊥)
    → IfErr result (λ r. EndsAt stage.reads (stage_of r) → HasRisenOf (file_of r) asked before after)
none_failed asked before after (Ok x) past = tt
none_failed asked before after (Err r) past = λ e. absurd (past (at_reads (stage_of r) e))

-- ---- the line

tells_refusal : (asked : Asked) (before after : List ℕ → ℕ) (r : Refusal) (told : Told)
    (old new : Option (List ℕ)) (faults faults' : ℕ) → HasFile (file_of r) asked
    → (EndsAt stage.reads (stage_of r) → HasRisenOf (file_of r) asked before after) → TellsLine told
    (line_of (path_of r (path_or_none (script_of asked)) (payload_of asked)) (fault_of r)) old new faults faults'
    → TellsEnd (Some asked) before after (status_of r) (Some (fault_of r)) told old new faults faults'
tells_refusal asked before after r told old new faults faults' h reads t = record {
  silent = λ p. absurd ((agrees r).bad p);
  line = λ p. record {
    told_fault = fault_of r;
    is = refl;
    path = path_of r (path_or_none (script_of asked))
        (payload_of asked);
    of = is_told asked before after r h reads;
    line = t;
  };
}

pub end_told : (command : Option Asked) (asked : Asked) (script payload path : List ℕ) (before after : List ℕ → ℕ)
    (r : Refusal) (status : ℕ) (fault : Fault) (told : Told) (old new : Option (List ℕ)) (faults faults' : ℕ)
    → Some asked ≡ command → status ≡ status_of r → fault ≡ fault_of r
    → script ≡ path_or_none (script_of asked) → payload ≡ payload_of asked → path ≡ path_of r script payload
    → HasFile (file_of r) asked → (EndsAt stage.reads (stage_of r) → HasRisenOf (file_of r) asked before after)
    → TellsLine told (line_of path (fault_of r)) old new faults faults'
    → TellsEnd command before after status (Some fault) told old new faults faults'
end_told command asked script payload path before after r status fault told old new faults faults' p e f s
    y q h reads t =
    let given : path ≡ path_of r (path_or_none (script_of asked)) (payload_of asked) = q
    ∙ (ap (λ x. path_of r x payload) s ∙ ap (path_of r (path_or_none (script_of asked))) y) in
    subst (λ (c : Option Asked). TellsEnd c before after status (Some fault) told old new faults faults') p
    (subst (λ (n : ℕ). TellsEnd (Some asked) before after n (Some fault) told old new faults faults') (sym e)
    (subst (λ (g : Fault).
    TellsEnd (Some asked) before after (status_of r) (Some g) told old new faults faults') (sym f)
    (tells_refusal asked before after r told old new faults faults' h reads
    (subst (λ (l : List ℕ). TellsLine told (line_of l (fault_of r)) old new faults faults') given t))))

-- words that are not understood
pub words_told : (command : Option Asked) (before after : List ℕ → ℕ) (fault : Fault) (told : Told)
    (old new : Option (List ℕ)) (faults faults' : ℕ) → None ≡ command
    → fault ≡ fault_of because.Words → TellsLine told (line_of [] (fault_of because.Words)) old new faults faults'
    → TellsEnd command before after 1 (Some fault) told old new faults faults'
words_told command before after fault told old new faults faults' p f t =
    subst (λ (c : Option Asked). TellsEnd c before after 1 (Some fault) told old new faults faults') p
    (subst (λ (g : Fault). TellsEnd None before after 1 (Some g) told old new faults faults') (sym f)
    (record {
      silent = λ p. absurd (omega arith);
      line = λ p. record { told_fault = fault_of because.Words; is = refl; path = []; of = refl; line = t };
    }))
