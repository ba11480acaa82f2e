-- The refusals of the calls between the words and the line of a fault.
use Rattle.std.specs.Prelude.{ℕ, List, [], Option, Some, None, Result, Ok, Err}
use Rattle.xf_host.specs.Count.{HasRisen}
use Rattle.xf_span.specs.declared.code.Code.TheVariants as code
use Rattle.xf_span.specs.declared.fault.Fault.{Fault}
use Rattle.xf_span.specs.declared.fault.TextFault.{TextFault}
use Rattle.xf_span.specs.declared.fault.TextFault.TheVariants as text_fault
use Rattle.xf_span.specs.Fault.{plain_fault}
use Rattle.xf_opt.specs.declared.outcome.File.{File}
use Rattle.xf_opt.specs.declared.outcome.File.TheVariants as file
use Rattle.xf_opt.specs.declared.outcome.StatusRow.{StatusRow}
use Rattle.xf_opt.specs.declared.outcome.Refusal.{Refusal}
use Rattle.xf_opt.specs.declared.outcome.Refusal.TheVariants as because
use Rattle.xf_opt.specs.declared.words.Command.{Command}
use Rattle.xf_opt.specs.declared.words.Command.TheVariants as command
use Rattle.xf_opt.specs.Files.{Refuses}
use Rattle.xf_opt.specs.Stages.{End, well}
use Rattle.xf_opt.specs.Statuses.{ending}
use Rattle.xf_opt.specs.Words.{Asked, run, verify, print, script_of, payload_of}

-- what a command asks for
abbrev pub asked_by : Command → Asked
asked_by (command.Run script payload) = run script.now payload.now
asked_by (command.Verify payload) = verify payload.now
asked_by (command.Print payload) = print payload.now

-- ---- the table

abbrev pub row : ℕ → Fault → File → StatusRow
row status fault file = record { status = status; fault = fault; file = file }

-- the status of a call that is refused so, its fault, and the file that the line names
abbrev pub row_of : Refusal → StatusRow
row_of because.Words = row 1 (plain_fault code.Words) file.Neither
row_of because.ScriptRead = row 2 (plain_fault code.ReadFailed) file.Script
row_of because.PayloadRead = row 2 (plain_fault code.ReadFailed) file.Payload
row_of because.Script = row 5 (plain_fault code.N1) file.Script
row_of (because.Payload f) = row 4 f file.Payload
row_of because.Write = row 3 (plain_fault code.WriteFailed) file.Neither
row_of because.NoMemory = row 9 (plain_fault code.OutOfMemory) file.Neither

abbrev pub status_of : Refusal → ℕ
status_of r = (row_of r).status

abbrev pub fault_of : Refusal → Fault
fault_of r = (row_of r).fault

abbrev pub file_of : Refusal → File
file_of r = (row_of r).file

-- where a call that is refused so ended
abbrev pub stage_of : Refusal → End
stage_of r = ending (status_of r)

-- ---- the results of calls

-- where a call ended
abbrev pub end_of : {T : Type 0} → Result T Refusal → End
end_of (Ok x) = well
end_of (Err r) = stage_of r

-- its fault
abbrev pub fault_in : {T : Type 0} → Result T Refusal → Option Fault
fault_in (Ok x) = None
fault_in (Err r) = Some (fault_of r)

-- ---- paths

-- a path, or an empty one where there is none
abbrev pub path_or_none : Option (List ℕ) → List ℕ
path_or_none None = []
path_or_none (Some path) = path

-- the path of a file, of these paths of the script and the payload
abbrev pub path_in : File → List ℕ → List ℕ → List ℕ
path_in file.Neither script payload = []
path_in file.Script script payload = script
path_in file.Payload script payload = payload

-- the path that the line of a refusal names
abbrev pub path_of : Refusal → List ℕ → List ℕ → List ℕ
path_of r script payload = path_in (file_of r) script payload

abbrev pub HasPath : Option (List ℕ) → Type 0
HasPath None = ⊥
HasPath (Some path) = Unit {0}

-- a command has the file
abbrev pub HasFile : File → Asked → Type 0
HasFile file.Neither asked = Unit {0}
HasFile file.Script asked = HasPath (script_of asked)
HasFile file.Payload asked = Unit {0}

abbrev pub HasRisenAt : Option (List ℕ) → (List ℕ → ℕ) → (List ℕ → ℕ) → Type 0
HasRisenAt None before after = ⊥
HasRisenAt (Some path) before after = HasRisen (before path) (after path)

-- the count of the file's path rose
abbrev pub HasRisenOf : File → Asked → (List ℕ → ℕ) → (List ℕ → ℕ) → Type 0
HasRisenOf file.Neither asked before after = ⊥
HasRisenOf file.Script asked before after = HasRisenAt (script_of asked) before after
HasRisenOf file.Payload asked before after = HasRisenAt (Some (payload_of asked)) before after

-- ---- refusals of what is below

-- why a payload's file is refused, by a command
abbrev pub RefusesBy : Asked → List ℕ → TextFault → Type 0
RefusesBy asked file (text_fault.At f) = Refuses asked file f
RefusesBy asked file text_fault.NoMemory = Unit {0}
