-- The names of a tree.
use Rattle.std.specs.Prelude.{◌≡◌, List, [], ◌∷◌, ◌++◌, Bool, true, false, ◌||◌, ◌==◌}
use Rattle.xf_ir.specs.declared.name.OpName.{OpName}
use Rattle.xf_ir.specs.Tree.{Ops, no_ops, op, Regions, no_regions, region}

-- the names of a block's own operations
abbrev pub heads : Ops → List OpName
heads no_ops = []
heads (op n k ds os ts rs rest) = n ∷ heads rest

-- those of all blocks of an operation
abbrev pub kids : Regions → List OpName
kids no_regions = []
kids (region args ops rest) = heads ops ++ kids rest

-- whether an operation has the name
abbrev mutual
  pub ops_has : OpName → Ops → Bool
  ops_has name no_ops = false
  ops_has name (op n k ds os ts rs rest) = (n.0 == name.0) || (regions_has name rs || ops_has name rest)

  pub regions_has : OpName → Regions → Bool
  regions_has name no_regions = false
  regions_has name (region args ops rest) = ops_has name ops || regions_has name rest

-- no name occurs twice
abbrev mutual
  pub OpsDistinct : Ops → Type 0
  OpsDistinct no_ops = Unit {0}
  OpsDistinct (op n k ds os ts rs rest) =
      (regions_has n rs ≡ false) × ((ops_has n rest ≡ false)
      × (((x : OpName) → regions_has x rs ≡ true → ops_has x rest ≡ false)
      × (RegionsDistinct rs × OpsDistinct rest)))

  pub RegionsDistinct : Regions → Type 0
  RegionsDistinct no_regions = Unit {0}
  RegionsDistinct (region args ops rest) = ((x : OpName) → ops_has x ops ≡ true → regions_has x rest ≡ false)
      × (OpsDistinct ops × RegionsDistinct rest)
