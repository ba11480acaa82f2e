-- What the walk over the operations has done.
use Rattle.std.specs.Prelude.{◌≡◌, ℕ, ◌+◌, List, ◌++◌, map, if◌then◌else◌, Some, None, false}
use Rattle.xf_span.specs.declared.place.Place.{Place}
use Rattle.xf_lex.specs.declared.token.Token.{Token}
use Rattle.xf_format.specs.declared.parts.Parts.{Parts}
use Rattle.xf_format.specs.Parts.{Said, said}
use Rattle.xf_type.specs.declared.payload_type.PayloadType.{PayloadType}
use Rattle.xf_ir.specs.Tree.{Regions, no_regions, region}
use Rattle.xf_ir.specs.Tree.{Tree as Op, Body as Block}
use Rattle.xf_read.specs.declared.faults.Faults.{Faults}
use Rattle.xf_read.specs.declared.head.MeantHead.{MeantHead}
use Rattle.xf_read.specs.declared.scope.VisibleNames.{VisibleNames as Visible}
use Rattle.xf_read.specs.declared.walk.Walk.{Walk}
use Rattle.xf_read.specs.declared.read.Built.{Built}
use Rattle.xf_syntax.specs.declared.tree.File.{File}
use Rattle.xf_syntax.specs.Telling.{SaidNodes, operations}
use Rattle.xf_read.specs.Meant.{meant, places_of, file_faults, joined, ops_said, yield_said}
use Rattle.xf_read_base.specs.Attributes.{entries_twice}
use Rattle.xf_read.specs.Names.{op_name, earlier, with_faults, undefined, names_twice}
use Rattle.xf_read.specs.Names.{types_agree}
use Rattle.xf_read.specs.Scopes.{Meanings, use_value}
use Rattle.xf_read.specs.Types.{result_types, argument_types}
use Rattle.xf_read_base.specs.Structured.{no_aliases}
use Rattle.xf_read_base.specs.Values.{attrs_said, kind_said}
use Rattle.xf_read.specs.Visible.{names_in}

-- so many operations were built, which have these places and these faults
pub record Moved (old new : Walk) (count : ℕ) (places : List Place) (faults : Faults) : Type 0 where
  pub next : new.next ≡ old.next + count
  pub places_are : new.places ≡ old.places ++ places
  pub faults_are : new.faults ≡ with_faults old.faults faults

-- the same names are visible by the same changes
pub record Same (old new : Visible) : Type 0 where
  pub names : names_in new ≡ names_in old
  pub changes : new.changes.items ≡ old.changes.items

-- what an operation holds beside its name and its regions, and its faults but for names of its arguments that stand
-- twice
pub record IsHead (all : List Token) (scope : Meanings) (first : ℕ) (p : Parts) (h : MeantHead) : Type 0 where
  pub kind : h.kind ≡ kind_said no_aliases p.row (said all p)
  pub attrs : h.attrs ≡ attrs_said (said all p).entries
  pub operands : h.operands ≡ map (use_value scope) (said all p).uses
  pub results : h.results ≡ result_types (said all p)
  pub args : h.args ≡ argument_types (said all p)
  pub undefined : h.faults.undefined ≡ undefined all scope p
  pub twice : h.faults.twice ≡ earlier (entries_twice all (λ name. false) p.entries) (names_twice all p scope)
  pub mismatch : h.faults.mismatch ≡ (if types_agree (said all p) scope then None else Some first)

-- regions before others
abbrev pub joined_regions : Regions → Regions → Regions
joined_regions no_regions us = us
joined_regions (region args ops rest) us = region args ops (joined_regions rest us)

-- operation n of a head and regions
abbrev pub head_tree : ℕ → MeantHead → Regions → Op
head_tree n h rs = record {
  name = op_name n;
  kind = h.kind;
  attrs = h.attrs;
  operands = h.operands;
  results = h.results;
  regions = rs;
}

-- a block of these arguments, the first operation of which is operation n
abbrev pub block_said : ℕ → Said → List PayloadType → Meanings → SaidNodes → Block
block_said n t args scope ns = record {
  args = args;
  ops = joined (ops_said n scope ns) (yield_said t ns (n + operations ns));
}

-- what a file means, and its faults
pub record IsBuilt (all : List Token) (f : File) (b : Built) : Type 0 where
  pub module_is : b.«module» ≡ meant all f
  pub places_are : b.places ≡ places_of all f
  pub faults_are : b.faults ≡ file_faults all f
