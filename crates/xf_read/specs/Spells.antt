-- The module that a text spells, and why a text spells none.
use Rattle.std.specs.Prelude.{◌≡◌, ◌⊎◌, ⊤, ℕ, ◌<◌, List, length, Option, Some, None, Err}
use Rattle.xf_span.specs.declared.place.Place.{Place}
use Rattle.xf_span.specs.declared.code.Code.TheVariants.{A2, A3, A4}
use Rattle.xf_span.specs.declared.fault.Fault.{Fault}
use Rattle.xf_span.specs.declared.fault.TextFault.{TextFault}
use Rattle.xf_span.specs.declared.fault.TextFault.TheVariants as text_fault
use Rattle.xf_span.specs.Fault.{fault_at}
use Rattle.xf_lex.specs.declared.token.Token.{Token}
use Rattle.xf_lex.specs.Lexes.{Lexes, HasFault}
use Rattle.xf_format.specs.declared.expected.Expected.{Expected}
use Rattle.xf_format.specs.declared.expected.Stopped.{Stopped}
use Rattle.xf_format.specs.declared.expected.Stopped.TheVariants as stopped
use Rattle.xf_syntax.specs.declared.tree.File.{File}
use Rattle.xf_syntax.specs.File.{file_at}
use Rattle.xf_syntax.specs.Laws.{IsText, NoTextThrough}
use Rattle.xf_read_base.specs.Stops.{due_fault}
use Rattle.xf_ir.specs.declared.op.Module.{Module}
use Rattle.xf_read.specs.declared.faults.Faults.{Faults}
use Rattle.xf_read.specs.Meant.{file_faults, meant, places_of, place_of}
use Rattle.xf_read.specs.Names.{no_faults}

-- ---- modules

-- a text has tokens, which are a file, whose names and types are right and which means the module
pub record Spells (bytes : List ℕ) (m : Module) : Type 0 where
  pub tokens : List Token
  pub file : File
  pub lexes : Lexes bytes tokens
  pub is_text : IsText tokens file
  pub no_fault : file_faults tokens file ≡ no_faults
  pub means : meant tokens file ≡ m

-- the operations of the module that a text spells have these places, by their numbers
pub record HasPlaces (bytes : List ℕ) (places : List Place) : Type 0 where
  pub tokens : List Token
  pub file : File
  pub lexes : Lexes bytes tokens
  pub is_text : IsText tokens file
  pub are : places ≡ places_of tokens file

-- ---- faults of the syntax

abbrev pub unread : List Token → Stopped → TextFault
unread all stopped.NoMemory = text_fault.NoMemory
unread all (stopped.At at d) = text_fault.At (due_fault all at d)

-- tokens that no file has: their reading stops at a token through which no text of the syntax agrees with them
pub record StopsAt (tokens : List Token) (f : Fault) : Type 0 where
  pub at : ℕ
  pub due : Expected
  pub stops : (fuel : ℕ) → length tokens < fuel → file_at fuel tokens ≡ Err (at, due)
  pub no_text : NoTextThrough at tokens
  pub is : f ≡ due_fault tokens at due

-- ---- faults of names and types

-- an undefined name goes before one that stands twice, and that before types and numbers that differ
abbrev pub mismatch_fault : List Token → Option ℕ → Option Fault
mismatch_fault all None = None
mismatch_fault all (Some i) = Some (fault_at A4 (place_of all i))

abbrev pub twice_fault_or : List Token → Option ℕ → Option Fault → Option Fault
twice_fault_or all None rest = rest
twice_fault_or all (Some i) rest = Some (fault_at A3 (place_of all i))

abbrev pub undefined_fault_or : List Token → Option ℕ → Option Fault → Option Fault
undefined_fault_or all None rest = rest
undefined_fault_or all (Some i) rest = Some (fault_at A2 (place_of all i))

abbrev pub first_fault : List Token → Faults → Option Fault
first_fault all f = undefined_fault_or all f.undefined (twice_fault_or all f.twice (mismatch_fault all f.mismatch))

-- tokens that are a file, of which a check of names or types finds this fault first
pub record Misnames (tokens : List Token) (f : Fault) : Type 0 where
  pub file : File
  pub is_text : IsText tokens file
  pub finds : first_fault tokens (file_faults tokens file) ≡ Some f

-- ---- texts that spell nothing

-- a text has tokens, and they have the fault
pub record HasTokensWith (Bad : List Token → Fault → Type 0) (bytes : List ℕ) (f : Fault) : Type 0 where
  pub tokens : List Token
  pub lexes : Lexes bytes tokens
  pub bad : Bad tokens f

-- why a text spells no module: a fault of its tokens, of the syntax, or of names and types
abbrev pub Misspells : List ℕ → Fault → Type 0
Misspells bytes f = HasFault bytes f ⊎ (HasTokensWith StopsAt bytes f ⊎ HasTokensWith Misnames bytes f)

-- why a module is not answered: the text has this fault, or memory was refused
abbrev pub IsUnread : List ℕ → TextFault → Type 0
IsUnread bytes (text_fault.At f) = Misspells bytes f
IsUnread bytes text_fault.NoMemory = ⊤

-- ---- laws

-- a text spells one module at most
abbrev pub SpellsOne : Type 0
SpellsOne = (bytes : List ℕ) (m n : Module) → Spells bytes m → Spells bytes n → m ≡ n

-- a text has one fault at most
abbrev pub MisspellsOne : Type 0
MisspellsOne = (bytes : List ℕ) (f g : Fault) → Misspells bytes f → Misspells bytes g → f ≡ g

-- and not both
abbrev pub SpellsOrNot : Type 0
SpellsOrNot = (bytes : List ℕ) (m : Module) (f : Fault) → Spells bytes m → Misspells bytes f → ⊥
