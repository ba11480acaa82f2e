-- What a text spells is bounded.
use Rattle.std.specs.Prelude.{◌≡◌, ℕ, suc, ◌+◌, ◌<◌, ◌^◌, ℤ, pos, negsuc, List, length, true}
use Rattle.xf_ir.specs.declared.kind.Kind.{Kind}
use Rattle.xf_ir.specs.declared.kind.Kind.TheVariants as kind
use Rattle.xf_ir.specs.declared.kind.SliceIndex.{SliceIndex}
use Rattle.xf_ir.specs.declared.kind.SliceIndex.TheVariants.{Fixed, Dynamic}
use Rattle.xf_ir.specs.declared.op.Module.{Module}
use Rattle.xf_ir.specs.Bounds.{ListsAreShort}
use Rattle.xf_ir.specs.Calls.{first_args}
use Rattle.xf_ir.specs.Kinds.{is_generic}
use Rattle.xf_ir.specs.Limits.{IsWithinLimits}
use Rattle.xf_ir.specs.Lists.{Each}
use Rattle.xf_ir.specs.Placed.{Placed, placed}
use Rattle.xf_ir.specs.Tree.{Tree}
use Rattle.xf_read.specs.Spells.{Spells}

-- a module that a text spells has no list of 2 ^ 32 entries
abbrev pub SpeltIsShort : Type 0
SpeltIsShort = (bytes : List ℕ) (m : Module) → Spells bytes m → ListsAreShort m

-- and is within the limits of payloads
abbrev pub SpeltIsWithinLimits : Type 0
SpeltIsWithinLimits = (bytes : List ℕ) (m : Module) → Spells bytes m → IsWithinLimits m

-- ---- the properties of slices, of linalg.generic and of dense constants

-- a number of 64 bits behind its sign
abbrev pub IsShortNumber : ℤ → Type 0
IsShortNumber (pos n) = n < 2 ^ 64
IsShortNumber (negsuc n) = suc n < 2 ^ 64

abbrev pub IsShortIndex : SliceIndex → Type 0
IsShortIndex (Fixed n) = IsShortNumber n
IsShortIndex Dynamic = Unit {0}

abbrev pub IsShortWindow : List SliceIndex → Type 0
IsShortWindow is = (length is < 2 ^ 32) × Each IsShortIndex is

abbrev pub IsShortKind : Kind → Type 0
IsShortKind (kind.Dense shape numbers) = length numbers < 2 ^ 32
IsShortKind (kind.ExtractSlice offsets sizes) = IsShortWindow offsets × IsShortWindow sizes
IsShortKind (kind.InsertSlice offsets sizes) = IsShortWindow offsets × IsShortWindow sizes
IsShortKind (kind.Generic maps iterators) = (length maps < 2 ^ 32) × (length iterators < 2 ^ 32)
IsShortKind k = Unit {0}

-- and a linalg.generic states fewer than 2 ^ 32 types, those of its operands and of the arguments of its block
pub record HasShortProperties (t : Tree) : Type 0 where
  pub kind : IsShortKind t.kind
  pub types : is_generic t.kind ≡ true → length t.operands + length (first_args t.regions) < 2 ^ 32

-- so have the operations of a module that a text spells
abbrev pub SpeltHasShortProperties : Type 0
SpeltHasShortProperties =
    (bytes : List ℕ) (m : Module) → Spells bytes m → Each (λ (p : Placed). HasShortProperties p.tree) (placed m)
