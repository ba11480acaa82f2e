-- Modules as they are stored.
use Rattle.std.specs.Prelude.{◌≡◌, suc, ◌+◌, ◌^◌, ◌<◌, length, ℤ, pos, negsuc, true}
use Rattle.xf_type.specs.declared.attribute.AttrValue.{AttrValue}
use Rattle.xf_type.specs.declared.attribute.AttrValue.TheVariants as attr
use Rattle.xf_ir.specs.declared.kind.Attr.{Attr}
use Rattle.xf_ir.specs.declared.kind.SliceIndex.{SliceIndex}
use Rattle.xf_ir.specs.declared.kind.SliceIndex.TheVariants.{Fixed, Dynamic}
use Rattle.xf_ir.specs.declared.op.Module.{Module}
use Rattle.xf_ir.specs.Bounds.{ListsAreShort}
use Rattle.xf_ir.specs.Calls.{first_args}
use Rattle.xf_ir.specs.Kinds.{is_generic}
use Rattle.xf_ir.specs.Lists.{Each}
use Rattle.xf_ir.specs.Placed.{Placed, placed}
use Rattle.xf_ir.specs.Tree.{Tree}
use Rattle.xf_printed.specs.Structured.{offsets_of, sizes_of, iterators_of}

-- the bytes of a string are bytes
abbrev pub HasBytes : AttrValue → Type 0
HasBytes attr.Unit = Unit {0}
HasBytes (attr.Int width bits) = Unit {0}
HasBytes (attr.Text bytes) = Each (λ b. b < 256) bytes

abbrev pub AllBytes : Placed → Type 0
AllBytes p = Each (λ (d : Attr). HasBytes d.value) p.tree.attrs

-- a number of 64 bits behind its sign, as the digits of each token are one
abbrev pub IsShortNumber : ℤ → Type 0
IsShortNumber (pos n) = n < 2 ^ 64
IsShortNumber (negsuc n) = suc n < 2 ^ 64

abbrev pub IsShortIndex : SliceIndex → Type 0
IsShortIndex (Fixed n) = IsShortNumber n
IsShortIndex Dynamic = Unit {0}

-- the offsets and sizes of a slice are numbers of 64 bits; and there are fewer than 2 ^ 32 iterator types, and fewer than 2 ^ 32
-- types in the head of a linalg.generic, those of its operands and those of the arguments of its block
pub record HasShortProperties (t : Tree) : Type 0 where
  pub offsets : Each IsShortIndex (offsets_of t.kind)
  pub sizes : Each IsShortIndex (sizes_of t.kind)
  pub iterators : length (iterators_of t.kind) < 2 ^ 32
  pub types : is_generic t.kind ≡ true → length t.operands + length (first_args t.regions) < 2 ^ 32

-- no list has 2 ^ 32 entries, and strings are made of bytes
pub record IsStored (m : Module) : Type 0 where
  pub lists : ListsAreShort m
  pub bytes : Each AllBytes (placed m)
  pub properties : Each (λ (p : Placed). HasShortProperties p.tree) (placed m)
