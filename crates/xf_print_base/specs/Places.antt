-- Offsets and sizes, one by one.
use Rattle.std.specs.Prelude.{List, drop, slice_get}
use Rattle.xf_ir.specs.declared.kind.SliceIndex.{SliceIndex}
use Rattle.xf_ir.specs.declared.kind.SliceIndex.TheVariants.{Fixed, Dynamic}
use Rattle.xf_ir.specs.declared.name.ValueName.{ValueName}
use Rattle.xf_printed.specs.Structured.{PlacePrinted, number, value}

-- an unknown one is the first of these values
abbrev pub place_printed : SliceIndex → List ValueName → PlacePrinted
place_printed (Fixed n) vs = number n
place_printed Dynamic vs = value (slice_get vs 0)

-- the values that are left behind it
abbrev pub behind_place : SliceIndex → List ValueName → List ValueName
behind_place (Fixed n) vs = vs
behind_place Dynamic vs = drop 1 vs
