-- The payload in a file: the valid module that its bytes spell, and why they spell none.
use Rattle.std.specs.Prelude.{◌≡◌, ◌⊎◌, ◌≤◌, ◌<◌, ⊤, ℕ, List, length, Option, Some, None, slice_get}
use Rattle.xf_span.specs.declared.place.Place.{Place}
use Rattle.xf_span.specs.declared.code.Code.{Code}
use Rattle.xf_span.specs.declared.code.Code.TheVariants.{A8, V1, V2, V3, V4, V5, V6, V7, V8, V9, V10, V11, V12, V13}
use Rattle.xf_span.specs.declared.code.Code.TheVariants.{V14, V15, V16}
use Rattle.xf_span.specs.declared.fault.Fault.{Fault}
use Rattle.xf_span.specs.declared.fault.TextFault.{TextFault}
use Rattle.xf_span.specs.declared.fault.TextFault.TheVariants as text_fault
use Rattle.xf_span.specs.Fault.{fault_at}
use Rattle.xf_span.specs.Limit.{file_limit}
use Rattle.xf_span.specs.Line.{HasLine}
use Rattle.xf_span.specs.Place.{first_place}
use Rattle.xf_ir.specs.declared.op.Module.{Module}
use Rattle.xf_ir.specs.declared.rule.Rule.{Rule}
use Rattle.xf_ir.specs.declared.rule.Rule.TheVariants as rule
use Rattle.xf_ir.specs.Valid.{IsValid}
use Rattle.xf_ir.specs.Violations.{Violation, first_violation}
use Rattle.xf_read.specs.Spells.{Spells, HasPlaces, Misspells}

-- a file holds a valid module
pub record IsPayload (file : List ℕ) (m : Module) : Type 0 where
  pub fits : length file ≤ file_limit
  pub spells : Spells file m
  pub valid : IsValid m

-- ---- why a file holds none

-- it is too long, which is told at its first place
pub record IsTooLong (file : List ℕ) (f : Fault) : Type 0 where
  pub passes : file_limit < length file
  pub is : f ≡ fault_at A8 first_place

-- its bytes spell no module: a fault of tokens, of the syntax, of names or of types
pub record IsMisspelt (file : List ℕ) (f : Fault) : Type 0 where
  pub fits : length file ≤ file_limit
  pub misspells : Misspells file f

-- the code of a rule
abbrev pub rule_code : Rule → Code
rule_code rule.Names = V1
rule_code rule.Functions = V2
rule_code rule.Regions = V3
rule_code rule.Blocks = V4
rule_code rule.Uses = V5
rule_code rule.Types = V6
rule_code rule.Attributes = V7
rule_code rule.Callees = V8
rule_code rule.Chains = V9
rule_code rule.Maps = V10
rule_code rule.Iterators = V11
rule_code rule.Reductions = V12
rule_code rule.Extents = V13
rule_code rule.Bodies = V14
rule_code rule.Ranges = V15
rule_code rule.Slices = V16

abbrev pub place_or_first : Option Place → Place
place_or_first None = first_place
place_or_first (Some p) = p

-- the fault of an operation that breaks a rule, where each operation has its place at the number of its name
abbrev pub rule_fault : List Place → Violation → Fault
rule_fault places v = fault_at (rule_code v.rule) (place_or_first (slice_get places v.op.0))

-- the module that its bytes spell is not valid; the first operation in the text that breaks a rule has the fault of the
-- first rule that it breaks
pub record BreaksARule (file : List ℕ) (f : Fault) : Type 0 where
  pub fits : length file ≤ file_limit
  pub before : Module
  pub places : List Place
  pub spells : Spells file before
  pub has_places : HasPlaces file places
  pub violation : Violation
  pub breaks : first_violation before ≡ Some violation
  pub is : f ≡ rule_fault places violation

-- a file holds no valid module, and this is its first fault
abbrev pub IsNoPayload : List ℕ → Fault → Type 0
IsNoPayload file f = IsTooLong file f ⊎ (IsMisspelt file f ⊎ BreaksARule file f)

-- why no module is answered: the file has this fault, or memory was refused
abbrev pub IsRefused : List ℕ → TextFault → Type 0
IsRefused file (text_fault.At f) = IsNoPayload file f
IsRefused file text_fault.NoMemory = ⊤

-- the fault has what its line tells
abbrev pub IsTellable : TextFault → Type 0
IsTellable (text_fault.At f) = HasLine f
IsTellable text_fault.NoMemory = ⊤

-- why a module that was read is refused: a rule that it breaks has this fault, or memory was refused
abbrev pub IsJudged : Module → List Place → TextFault → Type 0
IsJudged m places (text_fault.At f) = (v : Violation) × ((first_violation m ≡ Some v) × (f ≡ rule_fault places v))
IsJudged m places text_fault.NoMemory = ⊤
