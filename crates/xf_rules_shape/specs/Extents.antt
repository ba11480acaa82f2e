-- Extents by dimensions, noted one after another.
use Rattle.std.specs.Prelude.{ℕ, zero, suc, List, [], ◌∷◌, ◌++◌, Option, Some, None, Bool, true, ◌==◌, ◌&&◌}
use Rattle.std.specs.Prelude.{if◌then◌else◌}
use Rattle.xf_type.specs.declared.payload_type.PayloadType.{PayloadType}
use Rattle.xf_type.specs.declared.payload_type.Dim.{Dim}
use Rattle.xf_type.specs.declared.payload_type.Dim.TheVariants.{Fixed, Dynamic}
use Rattle.xf_ir.specs.RuleLinalg.{by_dims, dims_or_none}

-- the fixed extents of dimensions
abbrev pub Known : Type 0
Known = ℕ → Option ℕ

abbrev pub fits_extent : Option ℕ → Dim → Bool
fits_extent None e = true
fits_extent (Some known) (Fixed extent) = known == extent
fits_extent (Some known) Dynamic = true

-- whether an extent is the known one of its dimension, where there is one
abbrev pub fits_known : Known → ℕ × Dim → Bool
fits_known known x = fits_extent (known x.0) x.1

abbrev pub learned_extent : Known → ℕ → Dim → Known
learned_extent known d (Fixed extent) q = if d == q then Some extent else known q
learned_extent known d Dynamic q = known q

-- with the extent of a dimension, where it is fixed
abbrev pub learned : Known → ℕ × Dim → Known
learned known x = learned_extent known x.0 x.1

-- whether each extent is the known one of its dimension, those before it included
abbrev pub agree_known : Known → List (ℕ × Dim) → Bool
agree_known known [] = true
agree_known known (x ∷ xs) = fits_known known x && agree_known (learned known x) xs

-- the dimensions of the operand with a number
abbrev pub dims_at : List (Option PayloadType) → ℕ → List Dim
dims_at [] n = []
dims_at (o ∷ os) zero = dims_or_none o
dims_at (o ∷ os) (suc n) = dims_at os n

-- the extents of three operands, whose maps have these results
abbrev pub extents_by_three : List ℕ → List ℕ → List ℕ → List (Option PayloadType) → List (ℕ × Dim)
extents_by_three left right out os =
    by_dims left (dims_at os 0) ++ by_dims right (dims_at os 1) ++ by_dims out (dims_at os 2)

-- a fixed extent, or 1
abbrev pub extent_or_one : Dim → ℕ
extent_or_one (Fixed extent) = extent
extent_or_one Dynamic = 1
